use Rattle.std.proofs.Common.{◌∙◌, ap, arith, subst}
use Rattle.std.specs.Prelude.{not}
use Rattle.std.proofs.lemmas.Int.{ints}
use Rattle.trips.specs.WholeRoutes.{IsWhole}
use Rattle.joined_views.specs.Views.{is_some_list, lent_by}
use Rattle.penalty_cost.proofs.UsedCosts.{not-empty}
use Rattle.penalty_cost.proofs.proposed_side.ProposedSide.change.Goals as goal

pub returns-clause-value : goal.returns-clause-value
returns-clause-value c =
    let views = c.as_slice-views.ensures.value in
    let whole = subst (λ vs. IsWhole c.args.given.now c.args.self.now.vehicle_type.now (lent_by vs) c.new_whole-new.result) views c.new_whole-new.ensures.whole in
    let new = c.whole_cost-new_cost.ensures.value (lent_by c.args.self.now.views.items) whole c.requires.listed (c.lends_some.ensures ∙ ap (λ vs. is_some_list (lent_by vs)) views) in
    let old = c.whole_cost-old_cost.ensures.value c.args.self.now.visits.now c.requires.side.is_whole c.requires.side.listed (ap not c.is_empty-used.ensures ∙ not-empty c.args.self.now.visits.now) in
    let prizes = whole.prizes in
    let prizes_old = c.requires.side.is_whole.prizes in
    let from = c.from.ensures in
    let from_new = c.from-2.ensures in
    let short = c.whole_cost-new_cost.ensures.short in
    let short_old = c.whole_cost-old_cost.ensures.short in
    omega (arith, ints)
