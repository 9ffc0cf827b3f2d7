use Rattle.std.proofs.Common.{◌∙◌, ◌++◌, arith}
use Rattle.std.specs.Prelude.{slice_index}
use Rattle.problem_data.specs.declared.problem.Problem.{Problem}
use Rattle.search_model.specs.Candidates.{client_candidates}
use Rattle.search_model.specs.Kinds.{all_kinds}
use Rattle.descent_memory.specs.Memories.{Moments}
use Rattle.local_search.specs.inside.Turns.{alone_candidates, near_candidates, type_candidates}
use Rattle.local_search.proofs.Finishing.{turn_keeps, turn_pairs, turn_tried}
use Rattle.local_search.proofs.Keeping.{still_rests}
use Rattle.local_search.proofs.Stops.{candidates_of_stopped, candidates_of_tried, on_err, stage_own, stopped_more, stopped_then, tried_then}
use Rattle.local_search.proofs.Tries.{rests_first, rests_second}
use Rattle.local_search.proofs.turns.turn.Goals as goal

pub neighbour_turn-requires-clause-rests : goal.neighbour_turn-requires-clause-rests
neighbour_turn-requires-clause-rests g c =
    rests_first _ _ all_kinds _ (near_candidates c.args.neighbours.now c.args.client) (type_candidates c.args.search.now.problem c.args.client) _
    (rests_first _ _ all_kinds _ (near_candidates c.args.neighbours.now c.args.client ++ type_candidates c.args.search.now.problem c.args.client) (alone_candidates c.args.client) _ (c.requires.keeps c.args.client c.requires.client))

pub type_turn-requires-clause-stage : goal.type_turn-requires-clause-stage
type_turn-requires-clause-stage g c = stage_own _ _ _ c.in_ok-neighbour_turn.ensures.tried.stage

pub type_turn-requires-clause-rests : goal.type_turn-requires-clause-rests
type_turn-requires-clause-rests g c =
    still_rests _ _ _ _ _ _ _ c.in_ok-neighbour_turn.ensures.tried (λ (q : Problem) (ms : Moments). slice_index ms.clients c.args.client) (λ (q : Problem). type_candidates q c.args.client)
    c.in_ok-neighbour_turn.ensures.moments
    (rests_second _ _ all_kinds _ (near_candidates c.args.neighbours.now c.args.client) (type_candidates c.args.search.now.problem c.args.client) _
    (rests_first _ _ all_kinds _ (near_candidates c.args.neighbours.now c.args.client ++ type_candidates c.args.search.now.problem c.args.client) (alone_candidates c.args.client) _ (c.requires.keeps c.args.client c.requires.client)))

pub type_turn-requires-clause-client : goal.type_turn-requires-clause-client
type_turn-requires-clause-client g c = rw c.in_ok-neighbour_turn.ensures.tried.stage.problem c.requires.client

pub alone_turn-requires-clause-stage : goal.alone_turn-requires-clause-stage
alone_turn-requires-clause-stage g c = stage_own _ _ _ c.in_ok-type_turn.ensures.tried.stage

pub alone_turn-requires-clause-rests : goal.alone_turn-requires-clause-rests
alone_turn-requires-clause-rests g c =
    still_rests _ _ _ _ _ _ _
    (tried_then _ _ _ _ (near_candidates c.args.neighbours.now c.args.client) (type_candidates c.args.search.now.problem c.args.client) _ _ _ c.in_ok-neighbour_turn.ensures.tried (candidates_of_tried (λ (p : Problem). type_candidates p c.args.client) c.in_ok-neighbour_turn.ensures.tried.stage c.in_ok-type_turn.ensures.tried))
    (λ (q : Problem) (ms : Moments). slice_index ms.clients c.args.client) (λ (q : Problem). alone_candidates c.args.client) (c.in_ok-type_turn.ensures.moments ∙ c.in_ok-neighbour_turn.ensures.moments)
    (rests_second _ _ all_kinds _ (near_candidates c.args.neighbours.now c.args.client ++ type_candidates c.args.search.now.problem c.args.client) (alone_candidates c.args.client) _ (c.requires.keeps c.args.client c.requires.client))

pub alone_turn-requires-clause-client : goal.alone_turn-requires-clause-client
alone_turn-requires-clause-client g c = rw c.in_ok-type_turn.ensures.tried.stage.problem (rw c.in_ok-neighbour_turn.ensures.tried.stage.problem c.requires.client)

pub returns-in_err-neighbour_turn-clause-stopped : goal.returns-in_err-neighbour_turn-clause-stopped
returns-in_err-neighbour_turn-clause-stopped g c =
    on_err c.from_residual.result
    (stopped_more _ _ (near_candidates c.args.neighbours.now c.args.client ++ type_candidates c.args.search.now.problem c.args.client) (alone_candidates c.args.client) _ _ (stopped_more _ _ (near_candidates c.args.neighbours.now c.args.client) (type_candidates c.args.search.now.problem c.args.client) _ _ c.in_err-neighbour_turn.ensures.stopped))

pub returns-in_err-type_turn-clause-stopped : goal.returns-in_err-type_turn-clause-stopped
returns-in_err-type_turn-clause-stopped g c =
    on_err c.from_residual-in_err-type_turn.result
    (stopped_more _ _ (near_candidates c.args.neighbours.now c.args.client ++ type_candidates c.args.search.now.problem c.args.client) (alone_candidates c.args.client) _ _
    (stopped_then _ _ _ _ (near_candidates c.args.neighbours.now c.args.client) (type_candidates c.args.search.now.problem c.args.client) _ _ _ c.in_ok-neighbour_turn.ensures.tried
    (candidates_of_stopped (λ (p : Problem). type_candidates p c.args.client) c.in_ok-neighbour_turn.ensures.tried.stage c.in_err-type_turn.ensures.stopped)))

pub returns-in_err-alone_turn-clause-stopped : goal.returns-in_err-alone_turn-clause-stopped
returns-in_err-alone_turn-clause-stopped g c =
    on_err c.from_residual-in_err-alone_turn.result
    (stopped_then _ _ _ _ (near_candidates c.args.neighbours.now c.args.client ++ type_candidates c.args.search.now.problem c.args.client) (alone_candidates c.args.client) _ _ _
    (tried_then _ _ _ _ (near_candidates c.args.neighbours.now c.args.client) (type_candidates c.args.search.now.problem c.args.client) _ _ _ c.in_ok-neighbour_turn.ensures.tried (candidates_of_tried (λ (p : Problem). type_candidates p c.args.client) c.in_ok-neighbour_turn.ensures.tried.stage c.in_ok-type_turn.ensures.tried))
    c.in_err-alone_turn.ensures.stopped)

pub returns-clause-tried : goal.returns-clause-tried
returns-clause-tried g c =
    turn_tried _ _ _ _ (client_candidates c.args.search.now.problem c.args.neighbours.now) _ _ c.args.client c.moment-moment.result
    (tried_then _ _ _ _ (near_candidates c.args.neighbours.now c.args.client ++ type_candidates c.args.search.now.problem c.args.client) (alone_candidates c.args.client) _ _ _
    (tried_then _ _ _ _ (near_candidates c.args.neighbours.now c.args.client) (type_candidates c.args.search.now.problem c.args.client) _ _ _ c.in_ok-neighbour_turn.ensures.tried (candidates_of_tried (λ (p : Problem). type_candidates p c.args.client) c.in_ok-neighbour_turn.ensures.tried.stage c.in_ok-type_turn.ensures.tried))
    c.in_ok-alone_turn.ensures.tried)
    _ c.finish.ensures

pub returns-clause-keeps : goal.returns-clause-keeps
returns-clause-keeps g c =
    turn_keeps _ _ _ _ (client_candidates c.args.search.now.problem c.args.neighbours.now) _ _ c.args.client c.moment-moment.result
    (tried_then _ _ _ _ (near_candidates c.args.neighbours.now c.args.client ++ type_candidates c.args.search.now.problem c.args.client) (alone_candidates c.args.client) _ _ _
    (tried_then _ _ _ _ (near_candidates c.args.neighbours.now c.args.client) (type_candidates c.args.search.now.problem c.args.client) _ _ _ c.in_ok-neighbour_turn.ensures.tried (candidates_of_tried (λ (p : Problem). type_candidates p c.args.client) c.in_ok-neighbour_turn.ensures.tried.stage c.in_ok-type_turn.ensures.tried))
    c.in_ok-alone_turn.ensures.tried)
    _ c.finish.ensures c.requires.client (omega arith) (omega arith) (c.in_ok-alone_turn.ensures.moments ∙ c.in_ok-type_turn.ensures.moments ∙ c.in_ok-neighbour_turn.ensures.moments) c.requires.keeps

pub returns-clause-moments : goal.returns-clause-moments
returns-clause-moments g c =
    turn_pairs _ _ _ _ (client_candidates c.args.search.now.problem c.args.neighbours.now) _ _ c.args.client c.moment-moment.result
    (tried_then _ _ _ _ (near_candidates c.args.neighbours.now c.args.client ++ type_candidates c.args.search.now.problem c.args.client) (alone_candidates c.args.client) _ _ _
    (tried_then _ _ _ _ (near_candidates c.args.neighbours.now c.args.client) (type_candidates c.args.search.now.problem c.args.client) _ _ _ c.in_ok-neighbour_turn.ensures.tried (candidates_of_tried (λ (p : Problem). type_candidates p c.args.client) c.in_ok-neighbour_turn.ensures.tried.stage c.in_ok-type_turn.ensures.tried))
    c.in_ok-alone_turn.ensures.tried)
    _ c.finish.ensures (c.in_ok-alone_turn.ensures.moments ∙ c.in_ok-type_turn.ensures.moments ∙ c.in_ok-neighbour_turn.ensures.moments)
