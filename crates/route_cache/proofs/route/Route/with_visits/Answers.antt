use Rattle.std.proofs.Common.{subst}
use Rattle.problem_data.specs.declared.problem.VehicleType.{VehicleType}
use Rattle.problem_data.specs.Valid.{IsValidType}
use Rattle.route_cache.specs.inside.Kept.{IsKept}
use Rattle.route_cache.proofs.route.Route.with_visits.Goals as goal

pub invariant_of-result : goal.invariant_of-result
invariant_of-result c =
    let same = c.vehicle_type-vehicle_type.ensures.vehicle_type in
    rw c.in_ok-list.ensures.items (
      record { valid = c.validity.ensures; in_range = c.requires.vehicle; allowed = subst (IsValidType c.args.given.now) same c.vehicle_type-vehicle_type.ensures.valid; listed = c.requires.listed },
      subst (λ (t : VehicleType). IsKept c.args.given.now t c.args.visits.now c.in_ok-kept.kept) same c.in_ok-kept.ensures.kept,
    )
