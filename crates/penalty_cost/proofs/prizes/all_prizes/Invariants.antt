use Rattle.std.proofs.Common.{◌≡◌, ◌*◌, ◌≤◌}
use Rattle.std.specs.Prelude.{sum_by}
use Rattle.std.specs.List.{range_with_len}
use Rattle.problem_data.specs.Places.{depot_count}
use Rattle.problem_data.specs.Limits.{largest}
use Rattle.penalty_cost.specs.inside.VisitSums.{prize_at}
use Rattle.penalty_cost.proofs.prizes.all_prizes.Given as goal

abbrev pub invariant-loop-client : goal.invariant-loop-client
invariant-loop-client l = record {
  prizes : l.prizes ≡ sum_by (prize_at l.given) (range_with_len (depot_count l.given) l.client);
  short : l.prizes ≤ l.client * largest;
}
