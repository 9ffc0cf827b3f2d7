use Rattle.local_search.proofs.Stops.{on_err, stage_own, stopped_more, stopped_then, tried_then}
use Rattle.local_search.proofs.each_kind.try_kind.Goals as goal

pub try_before-requires-clause-stage : goal.try_before-requires-clause-stage
try_before-requires-clause-stage g c = stage_own _ _ _ c.in_ok-try_behind.ensures.tried.stage

pub returns-clause-tried : goal.returns-clause-tried
returns-clause-tried g c = tried_then _ _ _ _ _ _ _ _ _ c.in_ok-try_behind.ensures.tried c.in_ok-try_before.ensures.tried

pub returns-in_err-try_behind-clause-stopped : goal.returns-in_err-try_behind-clause-stopped
returns-in_err-try_behind-clause-stopped g c = on_err c.from_residual.result (stopped_more _ _ _ _ _ _ c.in_err-try_behind.ensures.stopped)

pub returns-in_err-try_before-clause-stopped : goal.returns-in_err-try_before-clause-stopped
returns-in_err-try_before-clause-stopped g c =
    on_err c.from_residual-in_err-try_before.result (stopped_then _ _ _ _ _ _ _ _ _ c.in_ok-try_behind.ensures.tried c.in_err-try_before.ensures.stopped)
