use Rattle.std.proofs.Common.{◌+◌, ◌≤◌, ◌∙◌, subst, slice_range}
use Rattle.problem_data.specs.declared.problem.Problem.{Problem}
use Rattle.problem_data.specs.Places.{leg_distance}
use Rattle.routing_model.specs.Listed.{type_of_vehicle}
use Rattle.routing_model.proofs.Paths.{path}
use Rattle.route_cache.specs.Marks.{place_along}
use Rattle.list_changes.proofs.LentWays.{lent-way}
use Rattle.list_changes.proofs.way.way_lent.Goals as goal

pub returns-clause-least : goal.returns-clause-least
returns-clause-least c = λ left is_come.
    let route = c.args.route.now in
    let lender = c.args.lender.now in
    let span = c.args.span in
    lent-way route.problem (type_of_vehicle route.problem route.vehicle) (type_of_vehicle lender.problem lender.vehicle) route.visits lender.visits left c.args.right span.first span.end
    c.from.result c.inner.result c.from-2.result c.args.profile c.requires.some c.requires.in_list c.requires.profile (c.from.ensures ∙ is_come)
    (λ from. subst (λ (q : Problem). leg_distance q c.args.profile from (place_along (type_of_vehicle lender.problem lender.vehicle) lender.visits (span.first + 1)) + c.inner.result
    ≤ path (leg_distance q c.args.profile) from (slice_range lender.visits span.first span.end)) c.requires.problem (c.inner.ensures.least from))
    (c.from-2.ensures ∙ (c.leg-to.ensures.distance ∙ (λ i. leg_distance (c.data.ensures i) c.args.profile (c.place_at-last.ensures.place i) (c.place_at-behind.ensures.place i))))
