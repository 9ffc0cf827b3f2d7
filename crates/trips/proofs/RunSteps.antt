-- One visit more, behind a run of a list and before one.
use Rattle.std.proofs.Common.{◌≡◌, ℕ, suc, ◌+◌, ◌-◌, ◌<◌, ◌≤◌, Bool, true, false, List, [], ◌∷◌, ◌++◌, length, get_or, take, drop, refl, ◌∙◌, ap, sym, subst, arith, slice_range, add-one}
use Rattle.std.specs.Prelude.{All, IsTrue, pos}
use Rattle.std.proofs.Math.Seq.{drop-cons}
use Rattle.std.proofs.lemmas.Bool.Decides.{nat_tests}
use Rattle.std.proofs.lemmas.List.{append-nil, get_or-drop, length-drop, take_all, take_more}
use Rattle.std.proofs.lemmas.List.Elements.{All-get_or, All-head, All-tail}
use Rattle.problem_data.specs.declared.problem.Problem.{Problem}
use Rattle.problem_data.specs.declared.problem.VehicleType.{VehicleType}
use Rattle.problem_data.specs.declared.visit.Visit.{Visit}
use Rattle.problem_data.specs.declared.visit.Visit.TheVariants.{Client, Reload}
use Rattle.problem_data.specs.Places.{leg_distance, place_count}
use Rattle.problem_data.specs.Valid.{IsValid, IsValidType}
use Rattle.routing_model.specs.Lawful.{names_place}
use Rattle.routing_model.specs.Stops.{stops}
use Rattle.trips.specs.declared.trip_segment.RouteSegment.{RouteSegment}
use Rattle.trips.specs.Conditions.{CanClose, IsSoundRoute}
use Rattle.trips.specs.Laws.{IsInRange}
use Rattle.trips.specs.Runs.{Run, followed_by, run_stops, whole}
use Rattle.segments.specs.Totals.{IsTotal}
use Rattle.trips.specs.Standing.{ClosesRun, StandsForRoute}
use Rattle.trips.proofs.InRange.{whole-can}
use Rattle.trips.specs.declared.run_segment.RunSegment.{RunSegment}
use Rattle.trips.specs.declared.whole_route.WholeRoute.{WholeRoute}
use Rattle.trips.specs.WholeRoutes.{IsWhole}
use Rattle.routing_model.specs.Listed.{IsListed}
use Rattle.trips.specs.inside.LastPlaces.{place_behind}
use Rattle.trips.specs.RunSegments.{FitTogether, HoldsRun, HoldsVisit, JoinsAt, Leaves, Reaches, alone, end_alone, run_before, run_from}
use Rattle.problem_data.specs.Visits.{place_of}
use Rattle.trips.proofs.RunCounts.{named-listed, run-in_range}
use Rattle.trips.proofs.RunPlaces.{leaves-all, leaves-longer, reaches-alone, reaches-end, reaches-longer, leaves-alone, same_length}

-- a run of some visits of the list, from a position up to another
abbrev pub part : Bool → List Visit → ℕ → ℕ → Bool → Run
part starts visits first end ends = record { starts = starts; visits = slice_range visits first end; ends = ends }

-- one visit more at the end
slice-more : (visits : List Visit) (first k : ℕ) (none : Visit) → first ≤ k → k < length visits → slice_range visits first (k + 1) ≡ slice_range visits first k ++ get_or visits k none ∷ []
slice-more visits first k none h in_list =
    let n : k + 1 - first ≡ (k - first) + 1 = omega arith in
    let there : first + (k - first) ≡ k = omega arith in
    let short : k - first < length (drop first visits) = omega (arith, length-drop first visits) in
    ap (λ (m : ℕ). take m (drop first visits)) n
    ∙ take_more (drop first visits) (k - first) none short
    ∙ ap (λ (visit : Visit). take (k - first) (drop first visits) ++ visit ∷ []) (get_or-drop first visits (k - first) none ∙ ap (λ (i : ℕ). get_or visits i none) there)

-- one visit more at the beginning
slice-first : (visits : List Visit) (i : ℕ) (none : Visit) → i < length visits → slice_range visits i (length visits) ≡ get_or visits i none ∷ slice_range visits (i + 1) (length visits)
slice-first visits i none in_list =
    let n : length visits - i ≡ suc (length visits - (i + 1)) = omega arith in
    ap (λ (m : ℕ). take m (drop i visits)) n
    ∙ ap (take (suc (length visits - (i + 1)))) (drop-cons visits i none in_list)
    ∙ ap (λ (m : ℕ). get_or visits i none ∷ take (length visits - (i + 1)) (drop m visits)) (sym (add-one i))

-- one visit alone
pub part-one : (visits : List Visit) (first : ℕ) (none : Visit) → first < length visits → part false visits first (first + 1) false ≡ alone (get_or visits first none)
part-one visits first none h =
    let nothing : first - first ≡ 0 = omega arith in
    let one : slice_range visits first (first + 1) ≡ get_or visits first none ∷ [] =
    slice-more visits first first none (omega arith) h ∙ ap (λ (m : ℕ). take m (drop first visits) ++ get_or visits first none ∷ []) nothing in
    λ i. record { starts = false; visits = one i; ends = false }

slice-all : (visits : List Visit) → slice_range visits 0 (length visits) ≡ visits
slice-all visits = take_all (length visits - 0) visits (omega arith)

-- a visit that is named has a place that is there
pub place-named : (p : Problem) (visit : Visit) → IsTrue (names_place p visit) → place_of visit < place_count p
place-named p (Client place) named = grind (arith, nat_tests)
place-named p (Reload depot) named = grind (arith, nat_tests)

pub named-at : (p : Problem) (visits : List Visit) (k : ℕ) (none : Visit) → IsListed p visits → k < length visits → IsTrue (names_place p (get_or visits k none))
named-at p visits k none listed h = All-get_or (λ (visit : Visit). IsTrue (names_place p visit)) visits k none h (named-listed p visits listed)

-- the last visit's place is there
pub last-there : (p : Problem) (start : ℕ) (visits : List Visit) → IsListed p visits → start < place_count p → place_behind start visits < place_count p
last-there p start visits listed h = behind start visits (named-listed p visits listed) h
  where
    behind : (place : ℕ) (visits : List Visit) → All (λ visit. IsTrue (names_place p visit)) visits → place < place_count p → place_behind place visits < place_count p
    behind place [] named h = h
    behind place (visit ∷ visits) named h =
        behind (place_of visit) visits (All-tail (λ (visit : Visit). IsTrue (names_place p visit)) visit visits named)
        (place-named p visit (All-head (λ (visit : Visit). IsTrue (names_place p visit)) visit visits named))

module _ (p : Problem) (t : VehicleType) (visits : List Visit) (valid : IsValid p) (allowed : IsValidType p t) (listed : IsListed p visits) where
  -- with the visit behind it, a run is the longer one
  pub run-more : (starts : Bool) (first k : ℕ) (none : Visit) → first ≤ k → k < length visits →
      part starts visits first (k + 1) false ≡ followed_by (part starts visits first k false) (alone (get_or visits k none))
  run-more starts first k none h in_list = λ i. record { starts = starts; visits = slice-more visits first k none h in_list i; ends = false }

  pub fit-more : (starts : Bool) (first k : ℕ) (none : Visit) (segment : RunSegment) (last : ℕ) (next : RunSegment) → first ≤ k → k < length visits →
      HoldsRun p t segment (part starts visits first k false) → Leaves p t (part starts visits first k false) last → HoldsVisit p (get_or visits k none) next →
      FitTogether p t segment last next (place_of (get_or visits k none))
  fit-more starts first k none segment last next h in_list holds leaves held = record {
    left = part starts visits first k false;
    right = alone (get_or visits k none);
    holds_left = holds;
    holds_right = held t allowed;
    follows = record { goes_on = refl; begun = refl };
    leaves = leaves;
    reaches = reaches-alone p t (get_or visits k none);
    in_range = subst (IsInRange p t) (run-more starts first k none h in_list) (run-in_range p t visits starts first (k + 1) false valid allowed listed);
  }

  pub holds-more : (starts : Bool) (first k : ℕ) (none : Visit) (segment : RunSegment) (last : ℕ) (next both : RunSegment) → first ≤ k → k < length visits →
      HoldsRun p t segment (part starts visits first k false) → Leaves p t (part starts visits first k false) last → HoldsVisit p (get_or visits k none) next →
      JoinsAt p t segment last next (place_of (get_or visits k none)) both → HoldsRun p t both (part starts visits first (k + 1) false)
  holds-more starts first k none segment last next both h in_list holds leaves held joins =
      subst (HoldsRun p t both) (sym (run-more starts first k none h in_list))
      (joins (part starts visits first k false) (alone (get_or visits k none)) holds (held t allowed) (record { goes_on = refl; begun = refl }) leaves
      (reaches-alone p t (get_or visits k none))
      (subst (IsInRange p t) (run-more starts first k none h in_list) (run-in_range p t visits starts first (k + 1) false valid allowed listed)))

  pub leaves-more : (starts : Bool) (first k : ℕ) (none : Visit) → first ≤ k → k < length visits → Leaves p t (part starts visits first (k + 1) false) (place_of (get_or visits k none))
  leaves-more starts first k none h in_list =
      subst (λ (run : Run). Leaves p t run (place_of (get_or visits k none))) (sym (run-more starts first k none h in_list))
      (leaves-longer p t (part starts visits first k false) (get_or visits k none) refl)

  -- with the visit before it
  pub run-longer : (i : ℕ) (none : Visit) → i < length visits → run_from visits i ≡ followed_by (alone (get_or visits i none)) (run_from visits (i + 1))
  run-longer i none in_list = λ j. record { starts = false; visits = slice-first visits i none in_list j; ends = true }

  pub range-longer : (i : ℕ) (none : Visit) → i < length visits → IsInRange p t (followed_by (alone (get_or visits i none)) (run_from visits (i + 1)))
  range-longer i none in_list = subst (IsInRange p t) (run-longer i none in_list) (run-in_range p t visits false i (length visits) true valid allowed listed)

  pub fit-longer : (i : ℕ) (none : Visit) (segment : RunSegment) (next : ℕ) (front : RunSegment) → i < length visits →
      HoldsRun p t segment (run_from visits (i + 1)) → Reaches p t (run_from visits (i + 1)) next → HoldsVisit p (get_or visits i none) front →
      FitTogether p t front (place_of (get_or visits i none)) segment next
  fit-longer i none segment next front in_list holds reaches held = record {
    left = alone (get_or visits i none);
    right = run_from visits (i + 1);
    holds_left = held t allowed;
    holds_right = holds;
    follows = record { goes_on = refl; begun = refl };
    leaves = leaves-alone p t (get_or visits i none);
    reaches = reaches;
    in_range = range-longer i none in_list;
  }

  pub holds-longer : (i : ℕ) (none : Visit) (segment : RunSegment) (next : ℕ) (front both : RunSegment) → i < length visits →
      HoldsRun p t segment (run_from visits (i + 1)) → Reaches p t (run_from visits (i + 1)) next → HoldsVisit p (get_or visits i none) front →
      JoinsAt p t front (place_of (get_or visits i none)) segment next both → HoldsRun p t both (run_from visits i)
  holds-longer i none segment next front both in_list holds reaches held joins =
      subst (HoldsRun p t both) (sym (run-longer i none in_list))
      (joins (alone (get_or visits i none)) (run_from visits (i + 1)) (held t allowed) holds (record { goes_on = refl; begun = refl })
      (leaves-alone p t (get_or visits i none)) reaches (range-longer i none in_list))

  pub reaches-before : (i : ℕ) (none : Visit) → i < length visits → Reaches p t (run_from visits i) (place_of (get_or visits i none))
  reaches-before i none in_list =
      subst (λ (run : Run). Reaches p t run (place_of (get_or visits i none))) (sym (run-longer i none in_list))
      (reaches-longer p t (get_or visits i none) (run_from visits (i + 1)))

  -- the whole list
  pub run-whole : followed_by (run_before visits (length visits)) end_alone ≡ whole visits
  run-whole = λ i. record { starts = true; visits = (append-nil (slice_range visits 0 (length visits)) ∙ slice-all visits) i; ends = true }

  pub run-starts : run_before visits (length visits) ≡ record { starts = true; visits = visits; ends = false }
  run-starts = λ i. record { starts = true; visits = slice-all visits i; ends = false }

  pub whole-in_range : IsInRange p t (whole visits)
  whole-in_range = subst (λ (xs : List Visit). IsInRange p t (whole xs)) (slice-all visits) (run-in_range p t visits true 0 (length visits) true valid allowed listed)

  pub whole-joined : IsInRange p t (followed_by (run_before visits (length visits)) end_alone)
  whole-joined = subst (IsInRange p t) (sym run-whole) whole-in_range

  pub leaves-before : Leaves p t (run_before visits (length visits)) (place_behind t.start visits)
  leaves-before = subst (λ (run : Run). Leaves p t run (place_behind t.start visits)) (sym run-starts) (leaves-all p t visits)

  pub fit-whole : (before end : RunSegment) → HoldsRun p t before (run_before visits (length visits)) → HoldsRun p t end end_alone → FitTogether p t before (place_behind t.start visits) end t.end
  fit-whole before end holds held = record {
    left = run_before visits (length visits);
    right = end_alone;
    holds_left = holds;
    holds_right = held;
    follows = record { goes_on = refl; begun = refl };
    leaves = leaves-before;
    reaches = reaches-end p t;
    in_range = whole-joined;
  }

  pub holds-whole : (before end all : RunSegment) → HoldsRun p t before (run_before visits (length visits)) → HoldsRun p t end end_alone → JoinsAt p t before (place_behind t.start visits) end t.end all →
      HoldsRun p t all (whole visits)
  holds-whole before end all holds held joins =
      subst (HoldsRun p t all) run-whole
      (joins (run_before visits (length visits)) end_alone holds held (record { goes_on = refl; begun = refl }) leaves-before (reaches-end p t) whole-joined)

  pub can-close : (all : RunSegment) → HoldsRun p t all (whole visits) → CanClose all.trips t.capacity
  can-close all holds = whole-can p t visits all.trips holds.sound whole-in_range holds.stands

  pub is-whole : (all : RunSegment) (segment : RouteSegment) (route : WholeRoute) → HoldsRun p t all (whole visits) → IsSoundRoute segment → ClosesRun all.trips t.capacity segment →
      route.segment ≡ segment → route.distance ≡ all.distance.distance → route.prizes ≡ all.prizes → IsWhole p t visits route
  is-whole all segment route holds sound closes is_segment is_distance is_prizes = record {
    sound = subst IsSoundRoute (sym is_segment) sound;
    stands = subst (λ (s : RouteSegment). StandsForRoute p t s visits) (sym is_segment) (closes p t visits refl whole-in_range.is_run holds.stands);
    sound_distance = subst IsTotal (sym is_distance) holds.sound_distance.distance;
    is_distance = is_distance ∙ holds.distance.distance ∙ ap (λ (n : ℕ). pos n) (same_length (leg_distance p t.profile) (run_stops p t (whole visits)) (stops p t visits) refl);
    prizes = is_prizes ∙ holds.prizes;
  }
