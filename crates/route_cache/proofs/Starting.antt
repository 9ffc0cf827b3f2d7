-- The passes at their first step.
use Rattle.std.proofs.Common.{◌≡◌, ◌-◌, List, [], ◌∷◌, length, ◌∙◌, ap, sym, subst, arith, true, false}
use Rattle.problem_data.specs.declared.problem.Problem.{Problem}
use Rattle.problem_data.specs.declared.problem.VehicleType.{VehicleType}
use Rattle.problem_data.specs.declared.visit.Visit.{Visit}
use Rattle.trips.specs.RunSegments.{HoldsRun, end_alone, run_from, start_alone}
use Rattle.route_cache.specs.declared.mark.Mark.{Mark}
use Rattle.route_cache.specs.declared.forward.Forward.{Forward}
use Rattle.route_cache.specs.declared.backward.Backward.{Backward}
use Rattle.route_cache.specs.inside.Passes.{IsBackward, IsForward}
use Rattle.route_cache.specs.inside.Shapes.{back, front, head_of, no_trip, tail_of}
use Rattle.route_cache.specs.inside.Tables.{run_of_side}
use Rattle.route_cache.specs.Marks.{IsMark}
use Rattle.route_cache.proofs.MarkFacts.{marked-start}
use Rattle.route_cache.proofs.Shapes.{open-end, open-start}
use Rattle.route_cache.proofs.Slices.{slice-none}
use Rattle.route_cache.proofs.Tables.{begun-table}

pub forward-start : (p : Problem) (t : VehicleType) (visits : List Visit) (forward : Forward) (mark : Mark) → IsMark p t visits 0 mark → HoldsRun p t forward.so_far start_alone →
    forward.marks.items ≡ mark ∷ [] → forward.durations.items ≡ 0 ∷ [] →
    forward.table.pieces.items ≡ tail_of forward.so_far.trips ∷ [] → forward.table.middles.items ≡ no_trip ∷ [] → forward.table.outer ≡ tail_of forward.so_far.trips → IsForward p t visits 0 forward
forward-start p t visits forward mark is holds marks durations pieces middles outer =
    let same : start_alone ≡ run_of_side front visits 0 = λ i. record { starts = true; visits = sym (slice-none visits 0) i; ends = false } in
    let begun : HoldsRun p t forward.so_far (run_of_side front visits 0) = subst (HoldsRun p t forward.so_far) same holds in
    let both = begun-table p t front visits forward.so_far.trips (tail_of forward.so_far.trips) forward.table.pieces.items forward.table.middles.items forward.table.outer
    (record { sound = begun.sound; stands = begun.stands }) (open-start p t forward.so_far.trips holds.stands) pieces middles outer in
    record {
      holds = begun;
      marked = marked-start p t visits forward.marks.items forward.durations.items mark is marks durations;
      table = both.table;
      latest = both.latest;
    }

pub backward-start : (p : Problem) (t : VehicleType) (visits : List Visit) (backward : Backward) → HoldsRun p t backward.so_far end_alone →
    backward.table.pieces.items ≡ head_of backward.so_far.trips ∷ [] → backward.table.middles.items ≡ no_trip ∷ [] → backward.table.outer ≡ head_of backward.so_far.trips → IsBackward p t visits 0 backward
backward-start p t visits backward holds pieces middles outer =
    let n : length visits ≡ length visits - 0 = omega arith in
    let same : end_alone ≡ run_of_side back visits 0 =
    (λ i. record { starts = false; visits = sym (slice-none visits (length visits)) i; ends = true }) ∙ ap (run_from visits) n in
    let begun : HoldsRun p t backward.so_far (run_of_side back visits 0) = subst (HoldsRun p t backward.so_far) same holds in
    let both = begun-table p t back visits backward.so_far.trips (head_of backward.so_far.trips) backward.table.pieces.items backward.table.middles.items backward.table.outer
    (record { sound = begun.sound; stands = begun.stands }) (open-end p t backward.so_far.trips holds.stands) pieces middles outer in
    record { holds = begun; table = both.table; latest = both.latest }
