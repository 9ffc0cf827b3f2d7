use Rattle.std.proofs.Common.{◌∙◌, ap}
use Rattle.penalty_cost.specs.Proposals.{pushed}
use Rattle.route_cache.specs.Routes.{ViewState}
use Rattle.new_lists.proofs.LaidViews.{last-view}
use Rattle.new_lists.proofs.laying.lay_out.Goals as goal

pub push-requires-2-clause-next : goal.push-requires-2-clause-next
push-requires-2-clause-next c =
    last-view c.args.search.now c.args.list c.args.side c.args.proposal.now c.push.new.proposal c.push_part.new.proposal c.push_part-2.new.proposal c.push_part-3.new.proposal c.requires.problem c.requires.side
    (c.push.ensures ∙ ap (λ (view : ViewState). pushed c.args.proposal.now c.args.side view) c.front.ensures)
    c.push_part.ensures.views c.push_part-2.ensures.views c.push_part-3.ensures.views c.back.result c.back.ensures
