use Rattle.std.proofs.Common.{◌≡◌, ◌≤◌, ap, length, subst}
use Rattle.routing_model.specs.Listed.{type_of_vehicle}
use Rattle.trips.specs.RunSegments.{run_before}
use Rattle.route_cache.specs.inside.Tables.{TripsHold}
use Rattle.route_cache.specs.Routes.{RouteState}
use Rattle.route_cache.proofs.Lookups.{before-held}
use Rattle.route_cache.proofs.route.Route.segment_before.Goals as goal

pub returns : goal.returns
returns c =
    let i = c.self.inside in
    let same : i.visits.items ≡ c.args.self.now.visits = ap (λ (r : RouteState). r.visits) c.self.view_is in
    let in_list : c.args.count ≤ length i.visits.items = rw same c.requires in
    subst (λ (r : RouteState). TripsHold r.problem (type_of_vehicle r.problem r.vehicle) c.from_front.result (run_before r.visits c.args.count)) c.self.view_is
    (before-held i.given.now (type_of_vehicle i.given.now i.vehicle) i.visits.items i.kept c.self.invariant.1 c.args.count c.index.result.now c.from_front.result in_list c.index.ensures c.from_front.ensures)
