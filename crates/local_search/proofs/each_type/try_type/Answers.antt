use Rattle.local_search.specs.inside.Turns.{empty_candidates, leaving_candidates}
use Rattle.local_search.proofs.Stops.{on_err, stage_own, stopped_more, stopped_then, tried_then}
use Rattle.local_search.proofs.each_type.try_type.Goals as goal

pub try_opening-requires-clause-stage : goal.try_opening-requires-clause-stage
try_opening-requires-clause-stage g c = stage_own _ _ _ c.in_ok-try_leaving.ensures.tried.stage

pub returns-clause-tried : goal.returns-clause-tried
returns-clause-tried g c =
    tried_then _ _ _ _ (leaving_candidates c.args.client c.args.vehicle_type) (empty_candidates c.args.client c.args.vehicle_type 13) _ _ _ c.in_ok-try_leaving.ensures.tried c.in_ok-try_opening.ensures.tried

pub returns-in_err-try_leaving-clause-stopped : goal.returns-in_err-try_leaving-clause-stopped
returns-in_err-try_leaving-clause-stopped g c =
    on_err c.from_residual.result
    (stopped_more _ _ (leaving_candidates c.args.client c.args.vehicle_type) (empty_candidates c.args.client c.args.vehicle_type 13) _ _ c.in_err-try_leaving.ensures.stopped)

pub returns-in_err-try_opening-clause-stopped : goal.returns-in_err-try_opening-clause-stopped
returns-in_err-try_opening-clause-stopped g c =
    on_err c.from_residual-in_err-try_opening.result
    (stopped_then _ _ _ _ (leaving_candidates c.args.client c.args.vehicle_type) (empty_candidates c.args.client c.args.vehicle_type 13) _ _ _ c.in_ok-try_leaving.ensures.tried c.in_err-try_opening.ensures.stopped)
