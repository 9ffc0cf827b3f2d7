use Rattle.std.proofs.Common.{◌≡◌, ◌*◌, ◌≤◌, ◌+◌, ◌-◌}
use Rattle.std.specs.Prelude.{count_by}
use Rattle.std.specs.List.{range_with_len}
use Rattle.problem_data.specs.Places.{depot_count}
use Rattle.routing_model.specs.Routes.{Routes}
use Rattle.genetic_model.specs.BrokenPairs.{left, right}
use Rattle.plan_differences.specs.Beside.{AreFlanks}
use Rattle.plan_differences.proofs.ComparedEntries.{differ}
use Rattle.plan_differences.proofs.comparison.broken_between.Given as goal

abbrev pub invariant-loop-place : goal.invariant-loop-place
invariant-loop-place l = record {
  begun : depot_count l.given ≤ l.place;
  few : l.broken ≤ 2 * (l.place - depot_count l.given);
  pairs : (x y : Routes) → AreFlanks l.given x l.a → AreFlanks l.given y l.b →
      l.broken ≡ count_by (differ x y left) (range_with_len (depot_count l.given) (l.place - depot_count l.given)) + count_by (differ x y right) (range_with_len (depot_count l.given) (l.place - depot_count l.given));
}
