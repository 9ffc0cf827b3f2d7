use Rattle.std.proofs.Common.{arith, ◌∙◌, ◌+◌, ap, ap₂, sym, ℕ, List, length}
use Rattle.problem_data.specs.declared.problem.VehicleType.{VehicleType}
use Rattle.problem_data.specs.declared.visit.Visit.{Visit}
use Rattle.problem_data.specs.Places.{type_at, type_of}
use Rattle.routing_model.specs.Cost.{route_cost}
use Rattle.penalty_cost.proofs.FleetSums.{lists-more, vehicles-all, vehicles-more}
use Rattle.penalty_cost.proofs.plan_cost.vehicles_cost.Goals as goal

pub loop-vehicle-preserved : goal.loop-vehicle-preserved
loop-vehicle-preserved c =
    let p = c.args.given.now in
    let cost = λ (v : VehicleType × List Visit). route_cost p c.args.weights v.0 v.1 in
    let before = c.loop-vehicle.invariant in
    let more = vehicles-more p c.args.routes.now cost c.loop-vehicle.vehicle c.index-routes-vehicle.result c.requires.plan.one_list_each c.loop-vehicle-test.true c.index-routes-vehicle.is in
    let own = c.vehicle_cost-cost.ensures.value ∙ ap (route_cost p c.args.weights (type_at p (type_of p c.loop-vehicle.vehicle))) c.items.ensures in
    let visits = lists-more c.args.routes.now (λ (visits : List Visit). length visits + 1) c.loop-vehicle.vehicle c.index-routes-vehicle.result c.items.result.now c.loop-vehicle-test.true
    c.index-routes-vehicle.is c.items.ensures in
    let reads = before.reads in
    let now = c.vehicle_cost-cost.ensures.reads in
    record {
      cost = ap₂ (λ (m n : ℕ). m + n) before.cost own ∙ sym more;
      short = omega (arith, before.short, c.vehicle_cost-cost.ensures.short);
      reads = record { kept = omega arith; most = omega arith };
    }

pub returns-clause-value : goal.returns-clause-value
returns-clause-value c =
    c.loop-vehicle.invariant.cost ∙ vehicles-all c.args.given.now c.args.routes.now (λ (v : VehicleType × List Visit). route_cost c.args.given.now c.args.weights v.0 v.1) c.loop-vehicle.vehicle
    c.requires.plan.one_list_each (omega arith)
