use Rattle.std.proofs.Common.{◌∙◌}
use Rattle.problem_data.specs.declared.problem.Problem.{Problem}
use Rattle.search_model.specs.Candidates.{client_candidates}
use Rattle.local_search.specs.inside.Turns.{all_client_candidates, all_pair_candidates}
use Rattle.local_search.proofs.Keeping.{keeps_after, pairs_after, pairs_of, pairs_own}
use Rattle.local_search.proofs.Stops.{candidates_of_stopped, candidates_of_tried, on_err, stage_own, stopped_more, stopped_then, tried_of, tried_then}
use Rattle.local_search.proofs.passes.pass.Goals as goal

pub pair_turns-requires-clause-stage : goal.pair_turns-requires-clause-stage
pair_turns-requires-clause-stage g c = stage_own _ _ _ c.in_ok-client_turns.ensures.tried.stage

pub pair_turns-requires-clause-pairs : goal.pair_turns-requires-clause-pairs
pair_turns-requires-clause-pairs g c = pairs_own _ _ _ c.in_ok-client_turns.ensures.tried.stage (pairs_after _ _ _ _ _ _ _ c.in_ok-client_turns.ensures.tried c.in_ok-client_turns.ensures.moments c.requires.pairs)

pub returns-in_err-client_turns-clause-stopped : goal.returns-in_err-client_turns-clause-stopped
returns-in_err-client_turns-clause-stopped g c = on_err c.from_residual.result (stopped_more _ _ (all_client_candidates c.args.search.now.problem c.args.neighbours.now c.args.order.now) (all_pair_candidates c.args.search.now.problem) _ _ c.in_err-client_turns.ensures.stopped)

pub returns-in_err-pair_turns-clause-stopped : goal.returns-in_err-pair_turns-clause-stopped
returns-in_err-pair_turns-clause-stopped g c =
    on_err c.from_residual-in_err-pair_turns.result
    (stopped_then _ _ _ _ (all_client_candidates c.args.search.now.problem c.args.neighbours.now c.args.order.now) (all_pair_candidates c.args.search.now.problem) _ _ _ c.in_ok-client_turns.ensures.tried
    (candidates_of_stopped (λ (p : Problem). all_pair_candidates p) c.in_ok-client_turns.ensures.tried.stage c.in_err-pair_turns.ensures.stopped))

pub returns-clause-tried : goal.returns-clause-tried
returns-clause-tried g c =
    tried_then _ _ _ _ (all_client_candidates c.args.search.now.problem c.args.neighbours.now c.args.order.now) (all_pair_candidates c.args.search.now.problem) _ _ _ c.in_ok-client_turns.ensures.tried (candidates_of_tried (λ (p : Problem). all_pair_candidates p) c.in_ok-client_turns.ensures.tried.stage c.in_ok-pair_turns.ensures.tried)

pub returns-clause-keeps : goal.returns-clause-keeps
returns-clause-keeps g c =
    keeps_after _ _ _ _ (all_pair_candidates c.args.search.now.problem) _ _
    (tried_of _ _ _ _ _ _ _ c.in_ok-client_turns.ensures.tried.stage (candidates_of_tried (λ (p : Problem). all_pair_candidates p) c.in_ok-client_turns.ensures.tried.stage c.in_ok-pair_turns.ensures.tried))
    (client_candidates c.args.search.now.problem c.args.neighbours.now) c.in_ok-pair_turns.ensures.moments c.in_ok-client_turns.ensures.keeps

pub returns-clause-pairs : goal.returns-clause-pairs
returns-clause-pairs g c = pairs_of _ _ _ _ c.in_ok-client_turns.ensures.tried.stage c.in_ok-pair_turns.ensures.pairs
