use Rattle.std.proofs.Common.{sym, subst}
use Rattle.routing_model.specs.Listed.{type_of_vehicle}
use Rattle.route_cache.specs.Marks.{AreMarks}
use Rattle.route_cache.specs.Routes.{RouteState}
use Rattle.route_cache.proofs.MarkFacts.{marks-all}
use Rattle.route_cache.proofs.route.Route.marks.Goals as goal

pub returns : goal.returns
returns c =
    let i = c.self.inside in
    let route = c.self.invariant.0 in
    subst (λ (r : RouteState). AreMarks r.problem (type_of_vehicle r.problem r.vehicle) r.visits c.as_slice.result.now) c.self.view_is
    (subst (AreMarks i.given.now (type_of_vehicle i.given.now i.vehicle) i.visits.items) (sym c.as_slice.ensures.value)
    (marks-all i.given.now (type_of_vehicle i.given.now i.vehicle) i.visits.items i.kept.marks.items i.kept.durations.items route.valid route.allowed route.listed c.self.invariant.1.marked))
