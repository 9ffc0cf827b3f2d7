-- The places along a list, and where its runs are left and reached.
use Rattle.std.proofs.Common.{◌≡◌, ℕ, zero, suc, ◌+◌, ◌<◌, ◌≤◌, Bool, true, false, List, length, get_or, refl, ◌∙◌, ap, sym, subst, arith, add-one, ◌⊎◌, inl, inr}
use Rattle.std.proofs.lemmas.Option.{slice_get-get_or, slice_get_past}
use Rattle.problem_data.specs.declared.problem.Problem.{Problem}
use Rattle.problem_data.specs.declared.problem.VehicleType.{VehicleType}
use Rattle.problem_data.specs.declared.visit.Visit.{Visit}
use Rattle.problem_data.specs.declared.visit.Visit.TheVariants.{Client}
use Rattle.problem_data.specs.Places.{leg_distance, leg_duration, place_count}
use Rattle.problem_data.specs.Valid.{IsValid, IsValidType}
use Rattle.problem_data.specs.Visits.{place_of}
use Rattle.routing_model.specs.Listed.{IsListed}
use Rattle.trips.specs.declared.run_segment.RunSegment.{RunSegment}
use Rattle.trips.specs.RunSegments.{CanMergeRunSegments, FitTogether, HoldsRun, HoldsVisit, JoinsRunSegments, Leaves, Reaches, end_alone, run_before, run_from}
use Rattle.trips.specs.Runs.{whole}
use Rattle.trips.proofs.RunJoins.{fit-can, joined-at}
use Rattle.trips.proofs.RunPlaces.{leaves-start, reaches-end}
use Rattle.trips.proofs.RunSteps.{fit-longer, fit-more, holds-longer, holds-more, leaves-more, named-at, place-named, reaches-before, run-whole, whole-joined}
use Rattle.route_cache.specs.inside.Tables.{IsBegun, run_up_to}
use Rattle.route_cache.specs.Marks.{place_along, place_or}
use Rattle.route_cache.proofs.Slices.{slice-none}

-- the place at a visit, and at the end
pub along-visit : (t : VehicleType) (visits : List Visit) (k : ℕ) (none : Visit) → k < length visits → place_along t visits (k + 1) ≡ place_of (get_or visits k none)
along-visit t visits k none h = ap (place_along t visits) (add-one k) ∙ ap (place_or t.end) (slice_get-get_or visits k none h)

along-past : (t : VehicleType) (visits : List Visit) (k : ℕ) → length visits ≤ k → place_along t visits (k + 1) ≡ t.end
along-past t visits k h = ap (place_along t visits) (add-one k) ∙ ap (place_or t.end) (slice_get_past visits k h)

pub along-end : (t : VehicleType) (visits : List Visit) → place_along t visits (length visits + 1) ≡ t.end
along-end t visits = along-past t visits (length visits) (omega arith)

before_or_past : (k n : ℕ) → (k < n) ⊎ (n ≤ k)
before_or_past k n = grind arith

-- each of these places is there
pub along-there : (p : Problem) (t : VehicleType) (visits : List Visit) (i : ℕ) → IsValidType p t → IsListed p visits → place_along t visits i < place_count p
along-there p t visits zero allowed listed = omega (arith, allowed.start)
along-there p t visits (suc k) allowed listed =
    subst (λ (i : ℕ). place_along t visits i < place_count p) (add-one k)
    (elim (before_or_past k (length visits)) [
      | inl h ↦ subst (λ (place : ℕ). place < place_count p) (sym (along-visit t visits k (Client 0) h)) (place-named p (get_or visits k (Client 0)) (named-at p visits k (Client 0) listed h))
      | inr h ↦ subst (λ (place : ℕ). place < place_count p) (sym (along-past t visits k h)) (omega (arith, allowed.end))
    ])

module _ (p : Problem) (t : VehicleType) (visits : List Visit) (valid : IsValid p) (allowed : IsValidType p t) (listed : IsListed p visits) where
  leaves-first : (first : ℕ) → first ≡ 0 → Leaves p t (run_up_to true visits first 0) (place_along t visits 0)
  leaves-first first h =
      subst (λ (n : ℕ). Leaves p t (run_up_to true visits n 0) (place_along t visits 0)) (sym h)
      (subst (λ (xs : List Visit). Leaves p t (record { starts = true; visits = xs; ends = false }) t.start) (sym (slice-none visits 0)) (leaves-start p t))

  leaves-next : (starts : Bool) (first k : ℕ) → first ≤ k → k < length visits → Leaves p t (run_up_to starts visits first (k + 1)) (place_along t visits (k + 1))
  leaves-next starts first k h in_list =
      subst (Leaves p t (run_up_to starts visits first (k + 1))) (sym (along-visit t visits k (Client 0) in_list))
      (leaves-more p t visits valid allowed listed starts first k (Client 0) h in_list)

  -- a run up to a position is left there
  pub leaves-along : (starts : Bool) (first k : ℕ) → IsBegun starts first k → k ≤ length visits → Leaves p t (run_up_to starts visits first k) (place_along t visits k)
  leaves-along true first zero begun h = leaves-first first (begun.at_start refl)
  leaves-along false first zero begun h = let no : first < 0 = begun.some refl in absurd (omega (arith, no))
  leaves-along true first (suc k) begun h =
      let e : first ≡ 0 = begun.at_start refl in
      subst (λ (n : ℕ). Leaves p t (run_up_to true visits first n) (place_along t visits n)) (add-one k) (leaves-next true first k (omega arith) (omega arith))
  leaves-along false first (suc k) begun h =
      let some : first < suc k = begun.some refl in
      subst (λ (n : ℕ). Leaves p t (run_up_to false visits first n) (place_along t visits n)) (add-one k) (leaves-next false first k (omega arith) (omega arith))

  -- the visits from one on, with the end, are reached there
  pub reaches-along : (i : ℕ) → i ≤ length visits → Reaches p t (run_from visits i) (place_along t visits (i + 1))
  reaches-along i h =
      elim (before_or_past i (length visits)) [
        | inl here ↦ subst (Reaches p t (run_from visits i)) (sym (along-visit t visits i (Client 0) here)) (reaches-before p t visits valid allowed listed i (Client 0) here)
        | inr past ↦
            let e : length visits ≡ i = omega arith in
            subst (λ (n : ℕ). Reaches p t (run_from visits n) (place_along t visits (n + 1))) e
            (subst (Reaches p t (run_from visits (length visits))) (sym (along-end t visits))
            (subst (λ (xs : List Visit). Reaches p t (record { starts = false; visits = xs; ends = true }) t.end) (sym (slice-none visits (length visits))) (reaches-end p t)))
      ]

  -- a visit more behind a run
  module _ (starts : Bool) (first k : ℕ) (so_far next : RunSegment) (distance duration : ℕ) (begun : IsBegun starts first k) (here : k < length visits)
      (holds : HoldsRun p t so_far (run_up_to starts visits first k)) (held : HoldsVisit p (get_or visits k (Client 0)) next)
      (is_distance : distance ≡ leg_distance p t.profile (place_along t visits k) (place_along t visits (k + 1)))
      (is_duration : duration ≡ leg_duration p t.profile (place_along t visits k) (place_along t visits (k + 1))) where
    in-order : first ≤ k
    in-order = ordered starts begun
      where
        ordered : (starts : Bool) → IsBegun starts first k → first ≤ k
        ordered true b = let e : first ≡ 0 = b.at_start refl in omega arith
        ordered false b = let some : first < k = b.some refl in omega arith

    left : Leaves p t (run_up_to starts visits first k) (place_along t visits k)
    left = leaves-along starts first k begun (omega arith)

    there : leg_distance p t.profile (place_along t visits k) (place_of (get_or visits k (Client 0))) ≡ distance
    there = sym (is_distance ∙ ap (leg_distance p t.profile (place_along t visits k)) (along-visit t visits k (Client 0) here))

    time : leg_duration p t.profile (place_along t visits k) (place_of (get_or visits k (Client 0))) ≡ duration
    time = sym (is_duration ∙ ap (leg_duration p t.profile (place_along t visits k)) (along-visit t visits k (Client 0) here))

    pub can-behind : CanMergeRunSegments so_far next distance duration t.capacity
    can-behind =
        subst (λ (n : ℕ). CanMergeRunSegments so_far next n duration t.capacity) there
        (subst (λ (n : ℕ). CanMergeRunSegments so_far next (leg_distance p t.profile (place_along t visits k) (place_of (get_or visits k (Client 0)))) n t.capacity) time
        (fit-can p t so_far (place_along t visits k) next (place_of (get_or visits k (Client 0)))
        (fit-more p t visits valid allowed listed starts first k (Client 0) so_far (place_along t visits k) next in-order here holds left held)))

    pub holds-behind : (both : RunSegment) → JoinsRunSegments so_far next distance duration t.capacity both → HoldsRun p t both (run_up_to starts visits first (k + 1))
    holds-behind both joins =
        holds-more p t visits valid allowed listed starts first k (Client 0) so_far (place_along t visits k) next both in-order here holds left held
        (joined-at p t so_far (place_along t visits k) next (place_of (get_or visits k (Client 0))) both
        (subst (λ (n : ℕ). JoinsRunSegments so_far next n (leg_duration p t.profile (place_along t visits k) (place_of (get_or visits k (Client 0)))) t.capacity both) (sym there)
        (subst (λ (n : ℕ). JoinsRunSegments so_far next distance n t.capacity both) (sym time) joins)))

  -- a visit more before the visits behind it
  module _ (i : ℕ) (so_far next : RunSegment) (distance duration : ℕ) (here : i < length visits)
      (holds : HoldsRun p t so_far (run_from visits (i + 1))) (held : HoldsVisit p (get_or visits i (Client 0)) next)
      (is_distance : distance ≡ leg_distance p t.profile (place_along t visits (i + 1)) (place_along t visits (i + 2)))
      (is_duration : duration ≡ leg_duration p t.profile (place_along t visits (i + 1)) (place_along t visits (i + 2))) where
    reached : Reaches p t (run_from visits (i + 1)) (place_along t visits (i + 2))
    reached =
        let e : i + 1 + 1 ≡ i + 2 = omega arith in
        subst (λ (n : ℕ). Reaches p t (run_from visits (i + 1)) (place_along t visits n)) e (reaches-along (i + 1) (omega arith))

    there-before : leg_distance p t.profile (place_of (get_or visits i (Client 0))) (place_along t visits (i + 2)) ≡ distance
    there-before = sym (is_distance ∙ ap (λ (n : ℕ). leg_distance p t.profile n (place_along t visits (i + 2))) (along-visit t visits i (Client 0) here))

    time-before : leg_duration p t.profile (place_of (get_or visits i (Client 0))) (place_along t visits (i + 2)) ≡ duration
    time-before = sym (is_duration ∙ ap (λ (n : ℕ). leg_duration p t.profile n (place_along t visits (i + 2))) (along-visit t visits i (Client 0) here))

    pub can-before : CanMergeRunSegments next so_far distance duration t.capacity
    can-before =
        subst (λ (n : ℕ). CanMergeRunSegments next so_far n duration t.capacity) there-before
        (subst (λ (n : ℕ). CanMergeRunSegments next so_far (leg_distance p t.profile (place_of (get_or visits i (Client 0))) (place_along t visits (i + 2))) n t.capacity) time-before
        (fit-can p t next (place_of (get_or visits i (Client 0))) so_far (place_along t visits (i + 2))
        (fit-longer p t visits valid allowed listed i (Client 0) so_far (place_along t visits (i + 2)) next here holds reached held)))

    pub holds-before : (both : RunSegment) → JoinsRunSegments next so_far distance duration t.capacity both → HoldsRun p t both (run_from visits i)
    holds-before both joins =
        holds-longer p t visits valid allowed listed i (Client 0) so_far (place_along t visits (i + 2)) next both here holds reached held
        (joined-at p t next (place_of (get_or visits i (Client 0))) so_far (place_along t visits (i + 2)) both
        (subst (λ (n : ℕ). JoinsRunSegments next so_far n (leg_duration p t.profile (place_of (get_or visits i (Client 0))) (place_along t visits (i + 2))) t.capacity both) (sym there-before)
        (subst (λ (n : ℕ). JoinsRunSegments next so_far distance n t.capacity both) (sym time-before) joins)))

  -- the end behind all visits
  module _ (before end : RunSegment) (distance duration : ℕ) (holds : HoldsRun p t before (run_before visits (length visits))) (held : HoldsRun p t end end_alone)
      (is_distance : distance ≡ leg_distance p t.profile (place_along t visits (length visits)) (place_along t visits (length visits + 1)))
      (is_duration : duration ≡ leg_duration p t.profile (place_along t visits (length visits)) (place_along t visits (length visits + 1))) where
    begun : IsBegun true 0 (length visits)
    begun = record { at_start = λ e. refl; some = λ e. absurd (true-not_false e) }
      where
        true-not_false : true ≡ false → ⊥
        true-not_false e = cc

    left-end : Leaves p t (run_before visits (length visits)) (place_along t visits (length visits))
    left-end = leaves-along true 0 (length visits) begun (omega arith)

    there-end : leg_distance p t.profile (place_along t visits (length visits)) t.end ≡ distance
    there-end = sym (is_distance ∙ ap (leg_distance p t.profile (place_along t visits (length visits))) (along-end t visits))

    time-end : leg_duration p t.profile (place_along t visits (length visits)) t.end ≡ duration
    time-end = sym (is_duration ∙ ap (leg_duration p t.profile (place_along t visits (length visits))) (along-end t visits))

    fits-end : FitTogether p t before (place_along t visits (length visits)) end t.end
    fits-end = record {
      left = run_before visits (length visits);
      right = end_alone;
      holds_left = holds;
      holds_right = held;
      follows = record { goes_on = refl; begun = refl };
      leaves = left-end;
      reaches = reaches-end p t;
      in_range = whole-joined p t visits valid allowed listed;
    }

    pub can-end : CanMergeRunSegments before end distance duration t.capacity
    can-end =
        subst (λ (n : ℕ). CanMergeRunSegments before end n duration t.capacity) there-end
        (subst (λ (n : ℕ). CanMergeRunSegments before end (leg_distance p t.profile (place_along t visits (length visits)) t.end) n t.capacity) time-end
        (fit-can p t before (place_along t visits (length visits)) end t.end fits-end))

    pub holds-end : (all : RunSegment) → JoinsRunSegments before end distance duration t.capacity all → HoldsRun p t all (whole visits)
    holds-end all joins =
        subst (HoldsRun p t all) (run-whole p t visits valid allowed listed)
        (joined-at p t before (place_along t visits (length visits)) end t.end all
        (subst (λ (n : ℕ). JoinsRunSegments before end n (leg_duration p t.profile (place_along t visits (length visits)) t.end) t.capacity all) (sym there-end)
        (subst (λ (n : ℕ). JoinsRunSegments before end distance n t.capacity all) (sym time-end) joins))
        (run_before visits (length visits)) end_alone holds held (record { goes_on = refl; begun = refl }) left-end (reaches-end p t) (whole-joined p t visits valid allowed listed))
