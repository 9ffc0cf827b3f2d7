use Rattle.std.proofs.Common.{arith, ◌+◌, ◌*◌, List, length, take}
use Rattle.problem_data.specs.declared.problem.VehicleType.{VehicleType}
use Rattle.problem_data.specs.declared.visit.Visit.{Visit}
use Rattle.routing_model.specs.Cost.{excess_distance, excess_time, route_drive}
use Rattle.routing_model.specs.Load.{excess_load}
use Rattle.penalty_cost.specs.inside.Excess.{distance_of, load_of, most_stops, stops_within, time_of}
use Rattle.penalty_cost.specs.inside.VisitSums.{at_plan, at_visits}
use Rattle.penalty_cost.proofs.FleetSums.{lists-more}
use Rattle.penalty_cost.proofs.PlanExcess.{both-within, some_clients-few, sum-all, sum-more, within-more}
use Rattle.penalty_cost.proofs.excess.plan_excess.Goals as goal

pub added-excess-requires-clause-first : goal.added-excess-requires-clause-first
added-excess-requires-clause-first c =
    let few = some_clients-few c.args.given.now c.args.routes.now c.loop-vehicle.vehicle c.validity.ensures c.requires in
    (2 * c.loop-vehicle.vehicle + 3 * at_plan (λ place. 1) (take c.loop-vehicle.vehicle c.args.routes.now), omega arith, c.loop-vehicle.invariant.short)

pub added-excess-requires-clause-second : goal.added-excess-requires-clause-second
added-excess-requires-clause-second c =
    let few = some_clients-few c.args.given.now c.args.routes.now (c.loop-vehicle.vehicle + 1) c.validity.ensures c.requires in
    let more = lists-more c.args.routes.now (at_visits (λ place. 1)) c.loop-vehicle.vehicle c.index-routes-vehicle.result c.items.result.now c.loop-vehicle-test.true c.index-routes-vehicle.is c.items.ensures in
    (stops_within c.items.result.now, omega arith, c.vehicle_excess.ensures.short)

pub loop-vehicle-preserved : goal.loop-vehicle-preserved
loop-vehicle-preserved c =
    let p = c.args.given.now in
    let routes = c.args.routes.now in
    let i = c.loop-vehicle.vehicle in
    let visits = c.index-routes-vehicle.result in
    let list = c.items.result.now in
    let before = c.loop-vehicle.invariant in
    let own = c.vehicle_excess.ensures.excess in
    let clients = lists-more routes (at_visits (λ place. 1)) i visits list c.loop-vehicle-test.true c.index-routes-vehicle.is c.items.ensures in
    let legs = lists-more routes (λ (visits : List Visit). length visits + 1) i visits list c.loop-vehicle-test.true c.index-routes-vehicle.is c.items.ensures in
    let reads = before.reads in
    let now = c.vehicle_excess.ensures.reads in
    record {
      load = sum-more p routes (load_of p) i c.loop-vehicle.excess.load c.vehicle_excess.result.load _ visits list c.requires.one_list_each c.loop-vehicle-test.true c.index-routes-vehicle.is c.items.ensures
          before.load own.load c.added-excess.ensures.load;
      time = sum-more p routes (time_of p) i c.loop-vehicle.excess.time c.vehicle_excess.result.time _ visits list c.requires.one_list_each c.loop-vehicle-test.true c.index-routes-vehicle.is c.items.ensures
          before.time own.time c.added-excess.ensures.time;
      distance = sum-more p routes (distance_of p) i c.loop-vehicle.excess.distance c.vehicle_excess.result.distance _ visits list c.requires.one_list_each c.loop-vehicle-test.true
          c.index-routes-vehicle.is c.items.ensures before.distance own.distance c.added-excess.ensures.distance;
      short = both-within c.loop-vehicle.excess c.vehicle_excess.result c.added-excess.result i (at_plan (λ place. 1) (take i routes)) _ list before.short c.vehicle_excess.ensures.short
          c.added-excess.ensures.load c.added-excess.ensures.time c.added-excess.ensures.distance clients;
      reads = record { kept = omega arith; most = omega arith };
    }

pub returns-clause-load : goal.returns-clause-load
returns-clause-load c =
    let p = c.args.given.now in
    sum-all p c.args.routes.now (λ (v : VehicleType × List Visit). excess_load p v.0 v.1) c.loop-vehicle.vehicle c.loop-vehicle.excess.load c.requires.one_list_each (omega arith) c.loop-vehicle.invariant.load

pub returns-clause-time : goal.returns-clause-time
returns-clause-time c =
    let p = c.args.given.now in
    sum-all p c.args.routes.now (λ (v : VehicleType × List Visit). excess_time v.0 (route_drive p v.0 v.1)) c.loop-vehicle.vehicle c.loop-vehicle.excess.time c.requires.one_list_each (omega arith)
    c.loop-vehicle.invariant.time

pub returns-clause-distance : goal.returns-clause-distance
returns-clause-distance c =
    let p = c.args.given.now in
    sum-all p c.args.routes.now (λ (v : VehicleType × List Visit). excess_distance p v.0 v.1) c.loop-vehicle.vehicle c.loop-vehicle.excess.distance c.requires.one_list_each (omega arith)
    c.loop-vehicle.invariant.distance

pub returns-clause-short : goal.returns-clause-short
returns-clause-short c =
    let few = some_clients-few c.args.given.now c.args.routes.now c.loop-vehicle.vehicle c.validity.ensures c.requires in
    within-more (2 * c.loop-vehicle.vehicle + 3 * at_plan (λ place. 1) (take c.loop-vehicle.vehicle c.args.routes.now)) most_stops c.loop-vehicle.excess (omega arith) c.loop-vehicle.invariant.short
