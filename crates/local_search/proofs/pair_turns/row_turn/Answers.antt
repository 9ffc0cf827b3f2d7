use Rattle.std.proofs.Common.{◌≡◌, ◌∙◌, ◌+◌, ◌-◌, ◌<◌, ◌≤◌, ap, arith}
use Rattle.problem_data.specs.Places.{vehicle_count}
use Rattle.descent_memory.proofs.PairPlaces.{before-few}
use Rattle.local_search.specs.inside.Turns.{pair_candidates}
use Rattle.local_search.proofs.Keeping.{pairs_of, pairs_own}
use Rattle.local_search.proofs.Nested.{stopped_from, tried_all_from, tried_from}
use Rattle.local_search.proofs.Stops.{on_err, stage_own}
use Rattle.local_search.proofs.Tries.{tried_none}
use Rattle.local_search.proofs.pair_turns.row_turn.Goals as goal

pub overflow_add-place : goal.overflow_add-place
overflow_add-place g c =
    let count : c.vehicles-vehicles.result ≡ vehicle_count c.args.search.now.problem = c.vehicles-vehicles.ensures.count ∙ ap vehicle_count c.data.ensures.problem in
    let few = before-few (vehicle_count c.args.search.now.problem) c.args.first (omega (arith, count)) in
    omega (arith, few, c.requires.row, count)

pub pair_turn-requires-clause-second : goal.pair_turn-requires-clause-second
pair_turn-requires-clause-second g c =
    let count : c.vehicles-vehicles.result ≡ vehicle_count c.args.search.now.problem = c.vehicles-vehicles.ensures.count ∙ ap vehicle_count c.data.ensures.problem in
    rw c.loop-second.invariant.tried.stage.problem (omega (arith, count))

pub pair_turn-requires-clause-place : goal.pair_turn-requires-clause-place
pair_turn-requires-clause-place g c = rw c.loop-second.invariant.tried.stage.problem (omega (arith, c.requires.row))

pub pair_turn-requires-clause-stage : goal.pair_turn-requires-clause-stage
pair_turn-requires-clause-stage g c = stage_own _ _ _ c.loop-second.invariant.tried.stage

pub pair_turn-requires-clause-pairs : goal.pair_turn-requires-clause-pairs
pair_turn-requires-clause-pairs g c = pairs_own _ _ _ c.loop-second.invariant.tried.stage c.loop-second.invariant.pairs

pub loop-second-preserved : goal.loop-second-preserved
loop-second-preserved g c =
    let least : c.args.first + 1 ≤ c.loop-second.second = omega arith in
    let count : c.vehicles-vehicles.result ≡ vehicle_count c.args.search.now.problem = c.vehicles-vehicles.ensures.count ∙ ap vehicle_count c.data.ensures.problem in
    let here : c.loop-second.second < c.args.first + 1 + (vehicle_count c.args.search.now.problem - (c.args.first + 1)) = omega (arith, count) in
    record {
      tried = tried_from _ _ _ _ _ _ (pair_candidates c.args.first) (c.args.first + 1) (vehicle_count c.args.search.now.problem - (c.args.first + 1)) c.loop-second.second _ least here c.loop-second.invariant.tried c.in_ok-pair_turn.ensures.tried;
      pairs = pairs_of _ _ _ _ c.loop-second.invariant.tried.stage c.in_ok-pair_turn.ensures.pairs;
      moments = c.in_ok-pair_turn.ensures.moments ∙ c.loop-second.invariant.moments;
      kinds = c.in_ok-pair_turn.ensures.kinds;
      fits = c.in_ok-pair_turn.ensures.fits;
    }

pub returns-in_err-pair_turn-clause-stopped : goal.returns-in_err-pair_turn-clause-stopped
returns-in_err-pair_turn-clause-stopped g c =
    let least : c.args.first + 1 ≤ c.loop-second.second = omega arith in
    let count : c.vehicles-vehicles.result ≡ vehicle_count c.args.search.now.problem = c.vehicles-vehicles.ensures.count ∙ ap vehicle_count c.data.ensures.problem in
    let here : c.loop-second.second < c.args.first + 1 + (vehicle_count c.args.search.now.problem - (c.args.first + 1)) = omega (arith, count) in
    on_err c.from_residual.result
    (stopped_from _ _ _ _ _ _ (pair_candidates c.args.first) (c.args.first + 1) (vehicle_count c.args.search.now.problem - (c.args.first + 1)) c.loop-second.second _ least here c.loop-second.invariant.tried c.in_err-pair_turn.ensures.stopped)

pub returns-clause-tried : goal.returns-clause-tried
returns-clause-tried g c =
    let count : c.vehicles-vehicles.result ≡ vehicle_count c.args.search.now.problem = c.vehicles-vehicles.ensures.count ∙ ap vehicle_count c.data.ensures.problem in
    let all : c.args.first + 1 + (vehicle_count c.args.search.now.problem - (c.args.first + 1)) ≤ c.loop-second.second = omega (arith, count, c.requires.first) in
    tried_all_from _ _ _ _ _ _ (pair_candidates c.args.first) (c.args.first + 1) (vehicle_count c.args.search.now.problem - (c.args.first + 1)) c.loop-second.second all c.loop-second.invariant.tried
