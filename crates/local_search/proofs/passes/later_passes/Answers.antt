use Rattle.std.proofs.Common.{◌∙◌, true, false, sym, subst}
use Rattle.problem_data.specs.declared.problem.Problem.{Problem}
use Rattle.search_model.specs.Candidates.{candidates, client_candidates}
use Rattle.local_search.specs.Descents.{NamesClients, NamesPlaces}
use Rattle.local_search.proofs.Descending.{goes_first, goes_last, goes_on, pass_lowers, stops_first, stops_later, takes_of}
use Rattle.local_search.proofs.Keeping.{keeps_of, keeps_own, pairs_of, pairs_own}
use Rattle.local_search.proofs.Stops.{candidates_of_stopped, candidates_of_tried, on_err, stage_own, stopped_of, tried_of}
use Rattle.local_search.proofs.passes.later_passes.Goals as goal

pub loop-init : goal.loop-init
loop-init g c = record { goes = goes_first _ _ _ _ _ c.requires.stage; keeps = c.requires.keeps; pairs = c.requires.pairs; kinds = c.requires.kinds; fits = c.requires.fits }

pub takes_some-requires-clause-stage : goal.takes_some-requires-clause-stage
takes_some-requires-clause-stage g c = stage_own _ _ _ c.loop.invariant.goes.went.stage

pub takes_some-requires-clause-keeps : goal.takes_some-requires-clause-keeps
takes_some-requires-clause-keeps g c =
    keeps_own _ _ (λ (p : Problem). client_candidates p c.args.neighbours.now) _ c.loop.invariant.goes.went.stage c.loop.invariant.keeps

pub takes_some-requires-clause-pairs : goal.takes_some-requires-clause-pairs
takes_some-requires-clause-pairs g c = pairs_own _ _ _ c.loop.invariant.goes.went.stage c.loop.invariant.pairs

pub takes_some-requires-clause-order : goal.takes_some-requires-clause-order
takes_some-requires-clause-order g c = subst (λ (p : Problem). NamesClients p c.args.order.now) (sym c.loop.invariant.goes.went.stage.problem) c.requires.order

pub takes_some-requires-clause-neighbours : goal.takes_some-requires-clause-neighbours
takes_some-requires-clause-neighbours g c = subst (λ (p : Problem). NamesPlaces p c.args.neighbours.now) (sym c.loop.invariant.goes.went.stage.problem) c.requires.neighbours

pub loop-smaller : goal.loop-smaller
loop-smaller g c = pass_lowers _ _ _ _ _ _ _ c.in_ok-takes_some.ensures.tried (sym c.in_ok-takes_some.ensures.takes ∙ c.if-branch.true)

pub loop-preserved : goal.loop-preserved
loop-preserved g c = record {
  goes = goes_on _ _ _ _ _ _ _ _ c.loop.invariant.goes (tried_of _ _ _ _ _ _ _ c.loop.invariant.goes.went.stage (candidates_of_tried (λ (p : Problem). candidates p c.args.neighbours.now c.args.order.now) c.loop.invariant.goes.went.stage c.in_ok-takes_some.ensures.tried))
      (takes_of _ _ _ (λ (p : Problem). candidates p c.args.neighbours.now c.args.order.now) true c.loop.invariant.goes.went.stage (sym c.in_ok-takes_some.ensures.takes ∙ c.if-branch.true));
  keeps = keeps_of _ _ (λ (p : Problem). client_candidates p c.args.neighbours.now) _ _ c.loop.invariant.goes.went.stage c.in_ok-takes_some.ensures.keeps;
  pairs = pairs_of _ _ _ _ c.loop.invariant.goes.went.stage c.in_ok-takes_some.ensures.pairs;
  kinds = c.in_ok-takes_some.ensures.kinds;
  fits = c.in_ok-takes_some.ensures.fits;
}

pub returns-in_err-takes_some-clause-problem : goal.returns-in_err-takes_some-clause-problem
returns-in_err-takes_some-clause-problem g c = c.in_err-takes_some.ensures.stopped.problem ∙ c.loop.invariant.goes.went.stage.problem

pub returns-in_err-takes_some-clause-weights : goal.returns-in_err-takes_some-clause-weights
returns-in_err-takes_some-clause-weights g c = c.in_err-takes_some.ensures.stopped.weights ∙ c.loop.invariant.goes.went.stage.weights

pub returns-in_err-takes_some-clause-stops : goal.returns-in_err-takes_some-clause-stops
returns-in_err-takes_some-clause-stops g c =
    on_err c.from_residual.result
    (stops_later _ _ (candidates c.args.search.now.problem c.args.neighbours.now c.args.order.now) _ _ _ _ c.loop.invariant.goes
    (stops_first _ _ (candidates c.args.search.now.problem c.args.neighbours.now c.args.order.now) _ _
    (stopped_of _ _ _ _ _ c.loop.invariant.goes.went.stage (candidates_of_stopped (λ (p : Problem). candidates p c.args.neighbours.now c.args.order.now) c.loop.invariant.goes.went.stage c.in_err-takes_some.ensures.stopped))))

pub returns-clause-went : goal.returns-clause-went
returns-clause-went g c =
    goes_last _ _ _ _ _ _ _ _ c.loop.invariant.goes (tried_of _ _ _ _ _ _ _ c.loop.invariant.goes.went.stage (candidates_of_tried (λ (p : Problem). candidates p c.args.neighbours.now c.args.order.now) c.loop.invariant.goes.went.stage c.in_ok-takes_some.ensures.tried))
    (takes_of _ _ _ (λ (p : Problem). candidates p c.args.neighbours.now c.args.order.now) false c.loop.invariant.goes.went.stage (sym c.in_ok-takes_some.ensures.takes ∙ c.if-branch.false))

pub returns-clause-problem : goal.returns-clause-problem
returns-clause-problem g c = c.in_ok-takes_some.ensures.tried.stage.problem ∙ c.loop.invariant.goes.went.stage.problem

pub returns-clause-weights : goal.returns-clause-weights
returns-clause-weights g c = c.in_ok-takes_some.ensures.tried.stage.weights ∙ c.loop.invariant.goes.went.stage.weights
