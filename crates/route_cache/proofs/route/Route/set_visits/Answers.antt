use Rattle.std.proofs.Common.{◌≡◌, ap, subst, sym}
use Rattle.problem_data.specs.declared.problem.Problem.{Problem}
use Rattle.problem_data.specs.declared.problem.VehicleType.{VehicleType}
use Rattle.routing_model.specs.Listed.{IsListed}
use Rattle.route_cache.specs.inside.Kept.{IsKept}
use Rattle.route_cache.specs.Routes.{RouteState}
use Rattle.route_cache.proofs.route.Route.set_visits.Goals as goal

pub invariant_of-self : goal.invariant_of-self
invariant_of-self c =
    let same : c.self.inside.given.now ≡ c.args.self.now.problem = ap (λ (r : RouteState). r.problem) c.self.view_is in
    let listed : IsListed c.self.inside.given.now c.args.visits.now = subst (λ (p : Problem). IsListed p c.args.visits.now) (sym same) c.requires in
    let route = c.self.invariant.0 in
    rw c.in_ok-list.ensures.items (
      record { valid = route.valid; in_range = route.in_range; allowed = route.allowed; listed = listed },
      subst (λ (t : VehicleType). IsKept c.self.inside.given.now t c.args.visits.now c.in_ok-kept.kept) c.vehicle_type-vehicle_type.ensures.vehicle_type c.in_ok-kept.ensures.kept,
    )
