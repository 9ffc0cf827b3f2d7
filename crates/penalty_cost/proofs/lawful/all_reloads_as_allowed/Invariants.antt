use Rattle.std.proofs.Common.{◌≡◌, true, take, List}
use Rattle.std.specs.List.{list_all}
use Rattle.problem_data.specs.declared.problem.VehicleType.{VehicleType}
use Rattle.problem_data.specs.declared.visit.Visit.{Visit}
use Rattle.routing_model.specs.Lawful.{reloads_as_allowed}
use Rattle.penalty_cost.proofs.FleetSums.{vehicles}
use Rattle.penalty_cost.proofs.lawful.all_reloads_as_allowed.Given as goal

abbrev pub invariant-loop-vehicle : goal.invariant-loop-vehicle
invariant-loop-vehicle l = list_all (λ (v : VehicleType × List Visit). reloads_as_allowed v.0 v.1) (take l.vehicle (vehicles l.given l.routes)) ≡ true
