use Rattle.std.proofs.Common.{◌∙◌, sym}
use Rattle.problem_data.specs.declared.problem.Problem.{Problem}
use Rattle.search_model.specs.Candidates.{candidates}
use Rattle.local_search.proofs.Descending.{goes_first, goes_on, stops_first, stops_later, stops_of, went_of, went_once, went_whole}
use Rattle.local_search.proofs.Stops.{on_err}
use Rattle.local_search.proofs.passes.all_passes.Goals as goal

pub returns-in_err-takes_some-clause-stops : goal.returns-in_err-takes_some-clause-stops
returns-in_err-takes_some-clause-stops g c = on_err c.from_residual.result (stops_first _ _ (candidates c.args.search.now.problem c.args.neighbours.now c.args.order.now) _ _ c.in_err-takes_some.ensures.stopped)

pub returns-then-not-branch-clause-went : goal.returns-then-not-branch-clause-went
returns-then-not-branch-clause-went g c = went_once _ _ _ (candidates c.args.search.now.problem c.args.neighbours.now c.args.order.now) _ _ c.in_ok-takes_some.ensures.tried (sym c.in_ok-takes_some.ensures.takes ∙ c.if-not-branch.true)

pub returns-in_err-later_passes-clause-stops : goal.returns-in_err-later_passes-clause-stops
returns-in_err-later_passes-clause-stops g c =
    on_err c.from_residual-in_err-later_passes.result
    (stops_later _ _ (candidates c.args.search.now.problem c.args.neighbours.now c.args.order.now) _ _ _ _
    (goes_on _ _ _ _ _ _ _ _ (goes_first _ _ _ _ _ c.requires.stage) c.in_ok-takes_some.ensures.tried (sym c.in_ok-takes_some.ensures.takes ∙ c.if-not-branch.false))
    (stops_of _ _ (λ (p : Problem). candidates p c.args.neighbours.now c.args.order.now) _ _ c.in_ok-takes_some.ensures.tried.stage c.in_err-later_passes.ensures.stops))

pub returns-clause-went : goal.returns-clause-went
returns-clause-went g c =
    went_whole _ _ _ (candidates c.args.search.now.problem c.args.neighbours.now c.args.order.now) _ _ _ c.in_ok-takes_some.ensures.tried (sym c.in_ok-takes_some.ensures.takes ∙ c.if-not-branch.false)
    (went_of _ _ _ _ (λ (p : Problem). candidates p c.args.neighbours.now c.args.order.now) _ _ c.in_ok-takes_some.ensures.tried.stage c.in_ok-later_passes.ensures.went)
