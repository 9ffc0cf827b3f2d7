use Rattle.std.proofs.Common.{◌≡◌, ◌≤◌, ◌∙◌, ap, arith}
use Rattle.std.specs.Prelude.{not}
use Rattle.std.proofs.lemmas.Int.{ints}
use Rattle.routing_model.specs.Cost.{route_cost}
use Rattle.trips.specs.RunSegments.{prizes_of}
use Rattle.joined_views.specs.Views.{is_some_list, lent_by}
use Rattle.penalty_cost.proofs.UsedCosts.{least-is, not-empty}
use Rattle.penalty_cost.proofs.proposed_side.ProposedSide.least_change.Goals as goal

pub returns-clause-least : goal.returns-clause-least
returns-clause-least c =
    let p = c.args.given.now in
    let t = c.args.self.now.vehicle_type.now in
    let new = lent_by c.args.self.now.views.items in
    let views = c.as_slice-views.ensures.value in
    let used = c.lends_some.ensures ∙ ap (λ vs. is_some_list (lent_by vs)) views in
    let least : c.least_cost-new_cost.result ≤ route_cost p c.args.weights t new = rw (c.least_cost-new_cost.ensures, used) (least-is p t new c.args.weights c.requires.listed.tidy) in
    let old = c.whole_cost-old_cost.ensures.value c.args.self.now.visits.now c.requires.side.is_whole c.requires.side.listed (ap not c.is_empty-used.ensures ∙ not-empty c.args.self.now.visits.now) in
    let prizes : c.lent_prizes.result ≡ prizes_of p new = c.lent_prizes.ensures.prizes ∙ ap (λ vs. prizes_of p (lent_by vs)) views in
    let prizes_old = c.requires.side.is_whole.prizes in
    let from = c.from.ensures in
    let from_old = c.from-2.ensures in
    let from_new = c.from-3.ensures in
    let short_old = c.whole_cost-old_cost.ensures.short in
    let short_new = c.lent_prizes.ensures.short in
    omega (arith, ints)
