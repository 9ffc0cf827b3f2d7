use Rattle.std.proofs.Common.{◌≡◌, length, map}
use Rattle.std.specs.List.{range_with_len}
use Rattle.problem_data.specs.declared.problem.Problem.{Problem}
use Rattle.genetic_model.specs.Fitness.{diversity}
use Rattle.subpopulation.specs.Kept.{IsKept, plans_of}
use Rattle.subpopulation.proofs.list.Subpopulation.diversities.Given as goal

abbrev pub invariant-loop-place : goal.invariant-loop-place
invariant-loop-place l = record {
  many : length l.diversities.items ≡ l.place;
  diverse : (p : Problem) → IsKept p l.self → l.diversities.items ≡ map (diversity p l.params (plans_of l.self)) (range_with_len 0 l.place);
}
