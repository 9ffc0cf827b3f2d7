use Rattle.std.proofs.Common.{◌∙◌, ◌<◌, ◌≤◌, arith, refl}
use Rattle.local_search.specs.inside.Turns.{empty_candidates}
use Rattle.local_search.proofs.Nested.{stopped_number, tried_number, tried_numbers}
use Rattle.local_search.proofs.Stops.{on_err, stage_own}
use Rattle.local_search.proofs.Tries.{tried_none}
use Rattle.local_search.proofs.each_type.try_each_empty.Goals as goal

pub loop-at-init : goal.loop-at-init
loop-at-init g c = record { tried = tried_none _ _ _ _ _ c.requires.stage; moments = refl; kinds = c.requires.kinds; fits = c.requires.fits }

pub try_empty-requires-clause-stage : goal.try_empty-requires-clause-stage
try_empty-requires-clause-stage g c = stage_own _ _ _ c.loop-at.invariant.tried.stage

pub loop-at-preserved : goal.loop-at-preserved
loop-at-preserved g c =
    let here : c.loop-at.at < 12 = omega arith in
    record {
      tried = tried_number _ _ _ _ _ _ (empty_candidates c.args.client c.args.vehicle_type) 12 c.loop-at.at _ here c.loop-at.invariant.tried c.in_ok-try_empty.ensures.tried;
      moments = c.in_ok-try_empty.ensures.moments ∙ c.loop-at.invariant.moments;
      kinds = c.in_ok-try_empty.ensures.kinds;
      fits = c.in_ok-try_empty.ensures.fits;
    }

pub returns-in_err-try_empty-clause-stopped : goal.returns-in_err-try_empty-clause-stopped
returns-in_err-try_empty-clause-stopped g c =
    let here : c.loop-at.at < 12 = omega arith in
    on_err c.from_residual.result
    (stopped_number _ _ _ _ _ _ (empty_candidates c.args.client c.args.vehicle_type) 12 c.loop-at.at _ here c.loop-at.invariant.tried c.in_err-try_empty.ensures.stopped)

pub returns-clause-tried : goal.returns-clause-tried
returns-clause-tried g c =
    let all : 12 ≤ c.loop-at.at = omega arith in
    tried_numbers _ _ _ _ _ _ (empty_candidates c.args.client c.args.vehicle_type) 12 c.loop-at.at all c.loop-at.invariant.tried
