use Rattle.std.proofs.Common.{◌≡◌, ◌∙◌, arith}
use Rattle.problem_data.specs.Places.{leg_distance}
use Rattle.routing_model.specs.Listed.{type_of_vehicle}
use Rattle.route_cache.proofs.MarkFacts.{no_mark}
use Rattle.route_cache.proofs.MarkPaths.{mark-leg}
use Rattle.list_changes.proofs.WayLaws.{inside-own, leg-first, path-from_first}
use Rattle.list_changes.proofs.way.inner.Goals as goal

pub returns-then-vehicle_type-profile-clause-least : goal.returns-then-vehicle_type-profile-clause-least
returns-then-vehicle_type-profile-clause-least c = λ from.
    let lender = c.args.lender.now in
    let way = path-from_first lender.problem (type_of_vehicle lender.problem lender.vehicle) lender.visits c.args.span.first c.args.span.end c.requires.some c.requires.in_list (leg_distance lender.problem c.args.profile) from in
    omega (arith, way)

pub overflow_sub-result : goal.overflow_sub-result
overflow_sub-result c =
    let lender = c.args.lender.now in
    let t = type_of_vehicle lender.problem lender.vehicle in
    let leg = mark-leg lender.problem t lender.visits c.marks-marks.result.now c.marks-marks.ensures no_mark c.args.span.first (omega arith) in
    leg-first lender.problem t lender.visits c.args.span.first c.args.span.end c.requires.some c.requires.in_list c.along.result c.from.result c.along.ensures.distance (c.from.ensures ∙ leg)

pub returns-clause-least : goal.returns-clause-least
returns-clause-least c =
    let lender = c.args.lender.now in
    let t = type_of_vehicle lender.problem lender.vehicle in
    let same : t.profile ≡ c.args.profile = rw (← c.data.ensures, ← c.vehicle.ensures.number, ← c.vehicle_type.ensures.vehicle_type) c.if-vehicle_type-profile.false in
    let leg = mark-leg lender.problem t lender.visits c.marks-marks.result.now c.marks-marks.ensures no_mark c.args.span.first (omega arith) in
    inside-own lender.problem t lender.visits c.args.span.first c.args.span.end c.requires.some c.requires.in_list c.along.result c.from.result c.along.ensures.distance (c.from.ensures ∙ leg) c.args.profile same

pub returns-clause-small : goal.returns-clause-small
returns-clause-small c = omega (arith, c.along.ensures.small)
