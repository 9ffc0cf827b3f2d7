use Rattle.std.proofs.Common.{◌≡◌, length, map, take}
use Rattle.problem_data.specs.declared.problem.Problem.{Problem}
use Rattle.routing_model.specs.Cost.{solution_cost}
use Rattle.subpopulation.specs.Kept.{IsKept, plans_of}
use Rattle.subpopulation.proofs.list.Subpopulation.costs_by.Given as goal

abbrev pub invariant-loop-cost : goal.invariant-loop-cost
invariant-loop-cost l = record {
  many : length l.costs.items ≡ l.cost-index;
  weighed : (p : Problem) → IsKept p l.self → l.costs.items ≡ map (solution_cost p l.weights) (take l.cost-index (plans_of l.self));
}
