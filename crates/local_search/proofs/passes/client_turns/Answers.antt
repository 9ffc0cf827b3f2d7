use Rattle.std.proofs.Common.{◌∙◌, ◌<◌, ◌≤◌, arith, refl, sym, subst, get_or, length}
use Rattle.problem_data.specs.declared.problem.Problem.{Problem}
use Rattle.search_model.specs.Candidates.{client_candidates}
use Rattle.local_search.specs.Descents.{NamesPlaces}
use Rattle.local_search.proofs.Keeping.{keeps_of, keeps_own}
use Rattle.local_search.proofs.Nested.{stopped_item, tried_item, tried_items}
use Rattle.local_search.proofs.Stops.{candidates_of_stopped, candidates_of_tried, on_err, stage_own}
use Rattle.local_search.proofs.Tries.{tried_none}
use Rattle.local_search.proofs.passes.client_turns.Goals as goal

pub loop-client-init : goal.loop-client-init
loop-client-init g c = record { tried = tried_none _ _ _ _ _ c.requires.stage; keeps = c.requires.keeps; moments = refl; kinds = c.requires.kinds; fits = c.requires.fits }

pub turn-requires-clause-stage : goal.turn-requires-clause-stage
turn-requires-clause-stage g c = stage_own _ _ _ c.loop-client.invariant.tried.stage

pub turn-requires-clause-keeps : goal.turn-requires-clause-keeps
turn-requires-clause-keeps g c =
    keeps_own _ _ (λ (p : Problem). client_candidates p c.args.neighbours.now) _ c.loop-client.invariant.tried.stage c.loop-client.invariant.keeps

pub turn-requires-clause-client : goal.turn-requires-clause-client
turn-requires-clause-client g c = rw c.loop-client.invariant.tried.stage.problem (c.requires.order c.loop-client.client-index 0 (omega arith))

pub turn-requires-clause-neighbours : goal.turn-requires-clause-neighbours
turn-requires-clause-neighbours g c =
    subst (λ (p : Problem). NamesPlaces p c.args.neighbours.now) (sym c.loop-client.invariant.tried.stage.problem) c.requires.neighbours

pub loop-client-preserved : goal.loop-client-preserved
loop-client-preserved g c =
    let here : c.loop-client.client-index < length c.args.order.now = omega arith in
    record {
      tried = tried_item _ _ _ _ _ _ (client_candidates c.args.search.now.problem c.args.neighbours.now) c.args.order.now c.loop-client.client-index 0 _ here c.loop-client.invariant.tried
          (candidates_of_tried (λ (p : Problem). client_candidates p c.args.neighbours.now (get_or c.args.order.now c.loop-client.client-index 0)) c.loop-client.invariant.tried.stage c.in_ok-turn.ensures.tried);
      keeps = keeps_of _ _ (λ (p : Problem). client_candidates p c.args.neighbours.now) _ _ c.loop-client.invariant.tried.stage c.in_ok-turn.ensures.keeps;
      moments = c.in_ok-turn.ensures.moments ∙ c.loop-client.invariant.moments;
      kinds = c.in_ok-turn.ensures.kinds;
      fits = c.in_ok-turn.ensures.fits;
    }

pub returns-in_err-turn-clause-stopped : goal.returns-in_err-turn-clause-stopped
returns-in_err-turn-clause-stopped g c =
    let here : c.loop-client.client-index < length c.args.order.now = omega arith in
    on_err c.from_residual.result
    (stopped_item _ _ _ _ _ _ (client_candidates c.args.search.now.problem c.args.neighbours.now) c.args.order.now c.loop-client.client-index 0 _ here c.loop-client.invariant.tried
    (candidates_of_stopped (λ (p : Problem). client_candidates p c.args.neighbours.now (get_or c.args.order.now c.loop-client.client-index 0)) c.loop-client.invariant.tried.stage c.in_err-turn.ensures.stopped))

pub returns-clause-tried : goal.returns-clause-tried
returns-clause-tried g c =
    let all : length c.args.order.now ≤ c.loop-client.client-index = omega arith in
    tried_items _ _ _ _ _ _ (client_candidates c.args.search.now.problem c.args.neighbours.now) c.args.order.now c.loop-client.client-index all c.loop-client.invariant.tried
