use Rattle.std.proofs.Common.{◌∙◌, ◌<◌, ◌≤◌, arith, refl, length}
use Rattle.std.specs.Prelude.{slice_index}
use Rattle.problem_data.specs.declared.problem.Problem.{Problem}
use Rattle.search_model.specs.Candidates.{unused_candidates}
use Rattle.search_model.specs.Kinds.{all_kinds}
use Rattle.descent_memory.specs.Memories.{Moments}
use Rattle.local_search.specs.inside.Turns.{empty_candidates, leaving_candidates}
use Rattle.local_search.proofs.Keeping.{rests_number, still_rests}
use Rattle.local_search.proofs.Nested.{stopped_number, tried_number, tried_numbers}
use Rattle.local_search.proofs.Stops.{on_err, stage_own}
use Rattle.local_search.proofs.Tries.{rests_first, tried_none}
use Rattle.local_search.proofs.turns.type_turn.Goals as goal

pub loop-vehicle_type-init : goal.loop-vehicle_type-init
loop-vehicle_type-init g c = record { tried = tried_none _ _ _ _ _ c.requires.stage; moments = refl; kinds = c.requires.kinds; fits = c.requires.fits }

pub try_type-requires-clause-vehicle_type : goal.try_type-requires-clause-vehicle_type
try_type-requires-clause-vehicle_type g c = rw c.loop-vehicle_type.invariant.tried.stage.problem (omega (arith, c.requires.stage.memory.as_many))

pub try_type-requires-clause-stage : goal.try_type-requires-clause-stage
try_type-requires-clause-stage g c = stage_own _ _ _ c.loop-vehicle_type.invariant.tried.stage

pub try_type-requires-clause-rests : goal.try_type-requires-clause-rests
try_type-requires-clause-rests g c =
    let here : c.loop-vehicle_type.vehicle_type < length c.args.search.now.problem.types = omega (arith, c.requires.stage.memory.as_many) in
    still_rests _ _ _ _ _ _ _ c.loop-vehicle_type.invariant.tried (λ (q : Problem) (ms : Moments). slice_index ms.clients c.args.client)
    (λ (q : Problem). leaving_candidates c.args.client c.loop-vehicle_type.vehicle_type) c.loop-vehicle_type.invariant.moments
    (rests_first _ _ all_kinds _ (leaving_candidates c.args.client c.loop-vehicle_type.vehicle_type) (empty_candidates c.args.client c.loop-vehicle_type.vehicle_type 13) _
    (rests_number _ _ _ (unused_candidates c.args.client) _ c.loop-vehicle_type.vehicle_type _ here c.requires.rests))

pub try_type-requires-clause-client : goal.try_type-requires-clause-client
try_type-requires-clause-client g c = rw c.loop-vehicle_type.invariant.tried.stage.problem c.requires.client

pub loop-vehicle_type-preserved : goal.loop-vehicle_type-preserved
loop-vehicle_type-preserved g c =
    let here : c.loop-vehicle_type.vehicle_type < length c.args.search.now.problem.types = omega (arith, c.requires.stage.memory.as_many) in
    record {
      tried = tried_number _ _ _ _ _ _ (unused_candidates c.args.client) _ c.loop-vehicle_type.vehicle_type _ here c.loop-vehicle_type.invariant.tried c.in_ok-try_type.ensures.tried;
      moments = c.in_ok-try_type.ensures.moments ∙ c.loop-vehicle_type.invariant.moments;
      kinds = c.in_ok-try_type.ensures.kinds;
      fits = c.in_ok-try_type.ensures.fits;
    }

pub returns-in_err-try_type-clause-stopped : goal.returns-in_err-try_type-clause-stopped
returns-in_err-try_type-clause-stopped g c =
    let here : c.loop-vehicle_type.vehicle_type < length c.args.search.now.problem.types = omega (arith, c.requires.stage.memory.as_many) in
    on_err c.from_residual.result
    (stopped_number _ _ _ _ _ _ (unused_candidates c.args.client) _ c.loop-vehicle_type.vehicle_type _ here c.loop-vehicle_type.invariant.tried c.in_err-try_type.ensures.stopped)

pub returns-clause-tried : goal.returns-clause-tried
returns-clause-tried g c =
    let all : length c.args.search.now.problem.types ≤ c.loop-vehicle_type.vehicle_type = omega (arith, c.requires.stage.memory.as_many) in
    tried_numbers _ _ _ _ _ _ (unused_candidates c.args.client) _ c.loop-vehicle_type.vehicle_type all c.loop-vehicle_type.invariant.tried
