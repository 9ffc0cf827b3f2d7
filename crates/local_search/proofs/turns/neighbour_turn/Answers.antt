use Rattle.std.proofs.Common.{◌∙◌, ◌<◌, ◌≤◌, ap, arith, refl, sym, subst, length}
use Rattle.std.specs.Prelude.{slice_index}
use Rattle.problem_data.specs.declared.problem.Problem.{Problem}
use Rattle.search_model.specs.Candidates.{neighbour_candidates}
use Rattle.search_model.specs.Neighbours.{near_list}
use Rattle.descent_memory.specs.Memories.{Moments}
use Rattle.local_search.specs.Descents.{NamesPlaces}
use Rattle.local_search.proofs.Keeping.{rests_item, still_rests}
use Rattle.local_search.proofs.Nested.{stopped_item, tried_item, tried_items}
use Rattle.local_search.proofs.Stops.{on_err, stage_own}
use Rattle.local_search.proofs.Tries.{tried_none}
use Rattle.local_search.proofs.turns.neighbour_turn.Goals as goal

pub loop-at-init : goal.loop-at-init
loop-at-init g c = record { tried = tried_none _ _ _ _ _ c.requires.stage; moments = refl; kinds = c.requires.kinds; fits = c.requires.fits }

pub neighbour_step-requires-clause-stage : goal.neighbour_step-requires-clause-stage
neighbour_step-requires-clause-stage g c = stage_own _ _ _ c.loop-at.invariant.tried.stage

pub neighbour_step-requires-clause-rests : goal.neighbour_step-requires-clause-rests
neighbour_step-requires-clause-rests g c =
    let here : c.loop-at.at < length (near_list c.args.neighbours.now c.args.client) = omega (arith, ap length c.of-at-end.ensures) in
    still_rests _ _ _ _ _ _ _ c.loop-at.invariant.tried (λ (q : Problem) (ms : Moments). slice_index ms.clients c.args.client)
    (λ (q : Problem). neighbour_candidates c.args.client (slice_index (near_list c.args.neighbours.now c.args.client) c.loop-at.at)) c.loop-at.invariant.moments
    (rests_item _ _ _ (neighbour_candidates c.args.client) (near_list c.args.neighbours.now c.args.client) c.loop-at.at 0 _ here c.requires.rests)

pub neighbour_step-requires-clause-client : goal.neighbour_step-requires-clause-client
neighbour_step-requires-clause-client g c = rw c.loop-at.invariant.tried.stage.problem c.requires.client

pub neighbour_step-requires-clause-neighbours : goal.neighbour_step-requires-clause-neighbours
neighbour_step-requires-clause-neighbours g c =
    subst (λ (p : Problem). NamesPlaces p c.args.neighbours.now) (sym c.loop-at.invariant.tried.stage.problem) c.requires.neighbours

pub loop-at-preserved : goal.loop-at-preserved
loop-at-preserved g c =
    let here : c.loop-at.at < length (near_list c.args.neighbours.now c.args.client) = omega (arith, ap length c.of-at-end.ensures) in
    record {
      tried = tried_item _ _ _ _ _ _ (neighbour_candidates c.args.client) (near_list c.args.neighbours.now c.args.client) c.loop-at.at 0 _ here c.loop-at.invariant.tried c.in_ok-neighbour_step.ensures.tried;
      moments = c.in_ok-neighbour_step.ensures.moments ∙ c.loop-at.invariant.moments;
      kinds = c.in_ok-neighbour_step.ensures.kinds;
      fits = c.in_ok-neighbour_step.ensures.fits;
    }

pub returns-in_err-neighbour_step-clause-stopped : goal.returns-in_err-neighbour_step-clause-stopped
returns-in_err-neighbour_step-clause-stopped g c =
    let here : c.loop-at.at < length (near_list c.args.neighbours.now c.args.client) = omega (arith, ap length c.of-at-end.ensures) in
    on_err c.from_residual.result
    (stopped_item _ _ _ _ _ _ (neighbour_candidates c.args.client) (near_list c.args.neighbours.now c.args.client) c.loop-at.at 0 _ here c.loop-at.invariant.tried c.in_err-neighbour_step.ensures.stopped)

pub returns-clause-tried : goal.returns-clause-tried
returns-clause-tried g c =
    let all : length (near_list c.args.neighbours.now c.args.client) ≤ c.loop-at.at = omega (arith, ap length c.of-at-end.ensures) in
    tried_items _ _ _ _ _ _ (neighbour_candidates c.args.client) (near_list c.args.neighbours.now c.args.client) c.loop-at.at all c.loop-at.invariant.tried
