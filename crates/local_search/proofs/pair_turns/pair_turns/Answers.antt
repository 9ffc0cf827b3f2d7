use Rattle.std.proofs.Common.{◌≡◌, ◌∙◌, ◌<◌, ◌≤◌, ap, arith, refl}
use Rattle.problem_data.specs.declared.problem.Problem.{Problem}
use Rattle.problem_data.specs.Places.{vehicle_count}
use Rattle.search_model.specs.Candidates.{vehicle_candidates}
use Rattle.descent_memory.proofs.PairPlaces.{before-few, before-next}
use Rattle.local_search.proofs.Keeping.{pairs_of, pairs_own}
use Rattle.local_search.proofs.Nested.{stopped_number, tried_number, tried_numbers}
use Rattle.local_search.proofs.Stops.{candidates_of_stopped, candidates_of_tried, on_err, stage_own}
use Rattle.local_search.proofs.Tries.{tried_none}
use Rattle.local_search.proofs.pair_turns.pair_turns.Goals as goal

pub row_turn-requires-clause-stage : goal.row_turn-requires-clause-stage
row_turn-requires-clause-stage g c = stage_own _ _ _ c.loop-first.invariant.tried.stage

pub row_turn-requires-clause-pairs : goal.row_turn-requires-clause-pairs
row_turn-requires-clause-pairs g c = pairs_own _ _ _ c.loop-first.invariant.tried.stage c.loop-first.invariant.pairs

pub overflow_add-row : goal.overflow_add-row
overflow_add-row g c =
    let count : c.vehicles-vehicles.result ≡ vehicle_count c.args.search.now.problem = c.vehicles-vehicles.ensures.count ∙ ap vehicle_count c.data.ensures.problem in
    let few = before-few (vehicle_count c.args.search.now.problem) c.loop-first.first (omega (arith, count)) in
    omega (arith, few, c.loop-first.invariant.row, count)

pub row_turn-requires-clause-first : goal.row_turn-requires-clause-first
row_turn-requires-clause-first g c =
    let count : c.vehicles-vehicles.result ≡ vehicle_count c.args.search.now.problem = c.vehicles-vehicles.ensures.count ∙ ap vehicle_count c.data.ensures.problem in
    rw c.loop-first.invariant.tried.stage.problem (omega (arith, count))

pub row_turn-requires-clause-row : goal.row_turn-requires-clause-row
row_turn-requires-clause-row g c = rw c.loop-first.invariant.tried.stage.problem c.loop-first.invariant.row

pub loop-first-preserved : goal.loop-first-preserved
loop-first-preserved g c =
    let count : c.vehicles-vehicles.result ≡ vehicle_count c.args.search.now.problem = c.vehicles-vehicles.ensures.count ∙ ap vehicle_count c.data.ensures.problem in
    let here : c.loop-first.first < vehicle_count c.args.search.now.problem = omega (arith, count) in
    let next = before-next (vehicle_count c.args.search.now.problem) c.loop-first.first in
    record {
      row = omega (arith, next, count, c.loop-first.invariant.row);
      tried = tried_number _ _ _ _ _ _ (vehicle_candidates (vehicle_count c.args.search.now.problem)) _ c.loop-first.first _ here c.loop-first.invariant.tried
          (candidates_of_tried (λ (p : Problem). vehicle_candidates (vehicle_count p) c.loop-first.first) c.loop-first.invariant.tried.stage c.in_ok-row_turn.ensures.tried);
      pairs = pairs_of _ _ _ _ c.loop-first.invariant.tried.stage c.in_ok-row_turn.ensures.pairs;
      moments = c.in_ok-row_turn.ensures.moments ∙ c.loop-first.invariant.moments;
      kinds = c.in_ok-row_turn.ensures.kinds;
      fits = c.in_ok-row_turn.ensures.fits;
    }

pub loop-first-init : goal.loop-first-init
loop-first-init g c = record { row = refl; tried = tried_none _ _ _ _ _ c.requires.stage; pairs = c.requires.pairs; moments = refl; kinds = c.requires.kinds; fits = c.requires.fits }

pub returns-in_err-row_turn-clause-stopped : goal.returns-in_err-row_turn-clause-stopped
returns-in_err-row_turn-clause-stopped g c =
    let count : c.vehicles-vehicles.result ≡ vehicle_count c.args.search.now.problem = c.vehicles-vehicles.ensures.count ∙ ap vehicle_count c.data.ensures.problem in
    let here : c.loop-first.first < vehicle_count c.args.search.now.problem = omega (arith, count) in
    on_err c.from_residual.result
    (stopped_number _ _ _ _ _ _ (vehicle_candidates (vehicle_count c.args.search.now.problem)) _ c.loop-first.first _ here c.loop-first.invariant.tried
    (candidates_of_stopped (λ (p : Problem). vehicle_candidates (vehicle_count p) c.loop-first.first) c.loop-first.invariant.tried.stage c.in_err-row_turn.ensures.stopped))

pub returns-clause-tried : goal.returns-clause-tried
returns-clause-tried g c =
    let count : c.vehicles-vehicles.result ≡ vehicle_count c.args.search.now.problem = c.vehicles-vehicles.ensures.count ∙ ap vehicle_count c.data.ensures.problem in
    let all : vehicle_count c.args.search.now.problem ≤ c.loop-first.first = omega (arith, count) in
    tried_numbers _ _ _ _ _ _ (vehicle_candidates (vehicle_count c.args.search.now.problem)) _ c.loop-first.first all c.loop-first.invariant.tried
