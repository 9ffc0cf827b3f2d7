use Rattle.std.proofs.Common.{arith, ◌∙◌, sym, List}
use Rattle.problem_data.specs.declared.problem.VehicleType.{VehicleType}
use Rattle.problem_data.specs.declared.visit.Visit.{Visit}
use Rattle.routing_model.specs.Lawful.{reloads_as_allowed}
use Rattle.penalty_cost.proofs.TestedVehicles.{vehicle-fails, vehicle-passes, vehicles-pass}
use Rattle.penalty_cost.proofs.lawful.all_reloads_as_allowed.Goals as goal

pub returns-then-not-reloads_as_allowed : goal.returns-then-not-reloads_as_allowed
returns-then-not-reloads_as_allowed c =
    sym (vehicle-fails c.args.given.now c.args.routes.now (λ (v : VehicleType × List Visit). reloads_as_allowed v.0 v.1) c.loop-vehicle.vehicle c.index-routes-vehicle.result c.items.result.now
    c.vehicle_type.result.now c.requires c.loop-vehicle-test.true c.index-routes-vehicle.is c.items.ensures c.vehicle_type.ensures.vehicle_type
    (sym c.reloads_as_allowed.ensures ∙ c.if-not-reloads_as_allowed.true))

pub loop-vehicle-preserved : goal.loop-vehicle-preserved
loop-vehicle-preserved c =
    vehicle-passes c.args.given.now c.args.routes.now (λ (v : VehicleType × List Visit). reloads_as_allowed v.0 v.1) c.loop-vehicle.vehicle c.index-routes-vehicle.result c.items.result.now
    c.vehicle_type.result.now c.requires c.loop-vehicle-test.true c.index-routes-vehicle.is c.items.ensures c.vehicle_type.ensures.vehicle_type
    (sym c.reloads_as_allowed.ensures ∙ c.if-not-reloads_as_allowed.false) c.loop-vehicle.invariant

pub returns : goal.returns
returns c =
    sym (vehicles-pass c.args.given.now c.args.routes.now (λ (v : VehicleType × List Visit). reloads_as_allowed v.0 v.1) c.loop-vehicle.vehicle c.requires (omega arith) c.loop-vehicle.invariant)
