use Rattle.local_search.specs.inside.Turns.{moving_candidates, putting_candidates}
use Rattle.local_search.proofs.Stops.{on_err, stage_own, stopped_more, stopped_then, tried_then}
use Rattle.local_search.proofs.each_kind.try_neighbour.Goals as goal

pub try_putting-requires-clause-stage : goal.try_putting-requires-clause-stage
try_putting-requires-clause-stage g c = stage_own _ _ _ c.in_ok-try_moving.ensures.tried.stage

pub returns-clause-tried : goal.returns-clause-tried
returns-clause-tried g c =
    tried_then _ _ _ _ (moving_candidates c.args.client c.args.neighbour) (putting_candidates c.args.client c.args.neighbour) _ _ _ c.in_ok-try_moving.ensures.tried c.in_ok-try_putting.ensures.tried

pub returns-in_err-try_moving-clause-stopped : goal.returns-in_err-try_moving-clause-stopped
returns-in_err-try_moving-clause-stopped g c =
    on_err c.from_residual.result
    (stopped_more _ _ (moving_candidates c.args.client c.args.neighbour) (putting_candidates c.args.client c.args.neighbour) _ _ c.in_err-try_moving.ensures.stopped)

pub returns-in_err-try_putting-clause-stopped : goal.returns-in_err-try_putting-clause-stopped
returns-in_err-try_putting-clause-stopped g c =
    on_err c.from_residual-in_err-try_putting.result
    (stopped_then _ _ _ _ (moving_candidates c.args.client c.args.neighbour) (putting_candidates c.args.client c.args.neighbour) _ _ _ c.in_ok-try_moving.ensures.tried c.in_err-try_putting.ensures.stopped)
