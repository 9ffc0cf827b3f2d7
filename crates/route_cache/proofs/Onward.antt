-- The passes, one visit further.
use Rattle.std.proofs.Common.{◌≡◌, ℕ, ◌+◌, ◌-◌, ◌<◌, ◌≤◌, List, [], ◌∷◌, ◌++◌, length, get_or, ◌∙◌, ap, sym, subst, arith}
use Rattle.problem_data.specs.declared.problem.Problem.{Problem}
use Rattle.problem_data.specs.declared.problem.VehicleType.{VehicleType}
use Rattle.problem_data.specs.declared.visit.Visit.{Visit}
use Rattle.problem_data.specs.declared.visit.Visit.TheVariants.{Client}
use Rattle.problem_data.specs.Places.{leg_duration}
use Rattle.trips.specs.RunSegments.{HoldsRun, run_before, run_from}
use Rattle.route_cache.specs.declared.mark.Mark.{Mark}
use Rattle.route_cache.specs.declared.forward.Forward.{Forward}
use Rattle.route_cache.specs.declared.backward.Backward.{Backward}
use Rattle.route_cache.specs.inside.Passes.{IsBackward, IsForward}
use Rattle.route_cache.specs.inside.Shapes.{Grows, back, front, grown_middles, grown_outer, head_of, middle_of, reload_of, tail_of}
use Rattle.route_cache.specs.inside.Tables.{reloads_of_side, run_of_side}
use Rattle.route_cache.specs.Marks.{IsMark, place_along, reloads_in}
use Rattle.std.proofs.Common.{slice_range}
use Rattle.route_cache.proofs.Counting.{reloads-fewer, reloads-from, reloads-more}
use Rattle.route_cache.proofs.MarkFacts.{marked-more}
use Rattle.route_cache.proofs.Tables.{updated}

pub forward-next : (p : Problem) (t : VehicleType) (visits : List Visit) (k : ℕ) (old new : Forward) (mark : Mark) (duration : ℕ) → k < length visits → IsForward p t visits k old →
    HoldsRun p t new.so_far (run_before visits (k + 1)) → Grows front (get_or visits k (Client 0)) old.so_far.trips new.so_far.trips → IsMark p t visits (k + 1) mark →
    duration ≡ leg_duration p t.profile (place_along t visits k) (place_along t visits (k + 1)) →
    new.marks.items ≡ old.marks.items ++ mark ∷ [] → new.durations.items ≡ old.durations.items ++ duration ∷ [] →
    new.table.pieces.items ≡ old.table.pieces.items ++ tail_of new.so_far.trips ∷ [] →
    new.table.middles.items ≡ grown_middles (get_or visits k (Client 0)) old.table.middles.items (middle_of new.so_far.trips) →
    new.table.outer ≡ grown_outer (get_or visits k (Client 0)) old.table.outer (head_of new.so_far.trips) → IsForward p t visits (k + 1) new
forward-next p t visits k old new mark duration here is holds grows is_mark is_duration marks durations pieces middles outer =
    let both = updated p t front visits k old.table.pieces.items old.table.middles.items old.table.outer old.so_far.trips new.so_far.trips is.table is.latest
    (λ i h. reloads-fewer front visits k i (omega arith) h) (record { sound = holds.sound; stands = holds.stands }) (get_or visits k (Client 0)) new.table.pieces.items new.table.middles.items new.table.outer
    (reloads-more visits k (Client 0) here) grows pieces middles outer in
    record {
      holds = holds;
      marked = marked-more p t visits k old.marks.items new.marks.items old.durations.items new.durations.items mark duration is.marked is_mark is_duration marks durations;
      table = both.table;
      latest = both.latest;
    }

backward-next : (p : Problem) (t : VehicleType) (visits : List Visit) (k at : ℕ) (old new : Backward) → at < length visits → at ≡ length visits - (k + 1) → k + 1 ≤ length visits → IsBackward p t visits k old →
    HoldsRun p t new.so_far (run_from visits at) → Grows back (get_or visits at (Client 0)) old.so_far.trips new.so_far.trips →
    new.table.pieces.items ≡ old.table.pieces.items ++ head_of new.so_far.trips ∷ [] →
    new.table.middles.items ≡ grown_middles (get_or visits at (Client 0)) old.table.middles.items (middle_of new.so_far.trips) →
    new.table.outer ≡ grown_outer (get_or visits at (Client 0)) old.table.outer (tail_of new.so_far.trips) → IsBackward p t visits (k + 1) new
backward-next p t visits k at old new here is_at in_list is held grows pieces middles outer =
    let holds : HoldsRun p t new.so_far (run_of_side back visits (k + 1)) = subst (λ (i : ℕ). HoldsRun p t new.so_far (run_from visits i)) is_at held in
    let behind : at + 1 ≡ length visits - k = omega arith in
    let more : reloads_of_side back visits (k + 1) ≡ reloads_of_side back visits k + reload_of (get_or visits at (Client 0)) =
    ap (λ (i : ℕ). reloads_in (slice_range visits i (length visits))) (sym is_at)
    ∙ reloads-from visits at (Client 0) here
    ∙ ap (λ (i : ℕ). reloads_in (slice_range visits i (length visits)) + reload_of (get_or visits at (Client 0))) behind in
    let both = updated p t back visits k old.table.pieces.items old.table.middles.items old.table.outer old.so_far.trips new.so_far.trips is.table is.latest
    (λ i h. reloads-fewer back visits k i (omega arith) h) (record { sound = holds.sound; stands = holds.stands }) (get_or visits at (Client 0)) new.table.pieces.items new.table.middles.items new.table.outer
    more grows pieces middles outer in
    record { holds = holds; table = both.table; latest = both.latest }

-- the same by the place of the visit
pub backward-at : (p : Problem) (t : VehicleType) (visits : List Visit) (at : ℕ) (old new : Backward) → at < length visits → IsBackward p t visits (length visits - 1 - at) old →
    HoldsRun p t new.so_far (run_from visits at) → Grows back (get_or visits at (Client 0)) old.so_far.trips new.so_far.trips →
    new.table.pieces.items ≡ old.table.pieces.items ++ head_of new.so_far.trips ∷ [] →
    new.table.middles.items ≡ grown_middles (get_or visits at (Client 0)) old.table.middles.items (middle_of new.so_far.trips) →
    new.table.outer ≡ grown_outer (get_or visits at (Client 0)) old.table.outer (tail_of new.so_far.trips) → IsBackward p t visits (length visits - at) new
backward-at p t visits at old new here is held grows pieces middles outer =
    let k = length visits - 1 - at in
    let e : k + 1 ≡ length visits - at = omega arith in
    subst (λ (n : ℕ). IsBackward p t visits n new) e (backward-next p t visits k at old new here (omega arith) (omega arith) is held grows pieces middles outer)

-- the visits behind one are passed
pub holds-behind_at : (p : Problem) (t : VehicleType) (visits : List Visit) (at : ℕ) (old : Backward) → at < length visits → IsBackward p t visits (length visits - 1 - at) old →
    HoldsRun p t old.so_far (run_from visits (at + 1))
holds-behind_at p t visits at old here is =
    let e : length visits - (length visits - 1 - at) ≡ at + 1 = omega arith in
    subst (λ (i : ℕ). HoldsRun p t old.so_far (run_from visits i)) e is.holds
