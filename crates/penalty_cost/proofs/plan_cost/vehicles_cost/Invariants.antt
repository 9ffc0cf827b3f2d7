use Rattle.std.proofs.Common.{◌≡◌, ◌+◌, ◌*◌, ◌≤◌, List, length, take}
use Rattle.std.specs.Prelude.{sum_by}
use Rattle.problem_data.specs.declared.problem.VehicleType.{VehicleType}
use Rattle.problem_data.specs.declared.visit.Visit.{Visit}
use Rattle.problem_data.specs.Reads.{RoseAtMost}
use Rattle.routing_model.specs.Cost.{route_cost}
use Rattle.penalty_cost.specs.inside.Totals.{most_cost}
use Rattle.penalty_cost.proofs.FleetSums.{vehicles}
use Rattle.penalty_cost.proofs.plan_cost.vehicles_cost.Given as goal

abbrev pub invariant-loop-vehicle : goal.invariant-loop-vehicle
invariant-loop-vehicle l = record {
  cost : l.cost ≡ sum_by (λ (v : VehicleType × List Visit). route_cost l.given l.weights v.0 v.1) (take l.vehicle (vehicles l.given l.routes));
  short : l.cost ≤ l.vehicle * most_cost;
  reads : RoseAtMost (sum_by (λ (visits : List Visit). length visits + 1) (take l.vehicle l.routes)) l.fn.reads l.reads;
}
