use Rattle.std.proofs.Common.{◌≡◌, ◌<◌}
use Rattle.std.specs.Prelude.{filter, IfSome, None}
use Rattle.std.specs.List.{last_or, range_with_len}
use Rattle.genetic_model.specs.Population.{is_duplicate}
use Rattle.compared_plans.specs.Compared.{plans_in}
use Rattle.compared_plans.proofs.duplicates.last_duplicate.Given as goal

abbrev pub invariant-loop-place : goal.invariant-loop-place
invariant-loop-place l = record {
  latest : l.last ≡ last_or None (filter (is_duplicate (plans_in l.items)) (range_with_len 0 l.place));
  there : IfSome l.last (λ place. place < l.place);
}
