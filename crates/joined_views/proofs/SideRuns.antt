-- The runs that the views of a new list make.
use Rattle.std.proofs.Common.{◌≡◌, ℕ, zero, suc, ◌+◌, ◌-◌, ◌<◌, ◌≤◌, Bool, true, false, List, [], ◌∷◌, ◌++◌, length, get_or, take, drop, refl, ◌∙◌, ap, subst, sym, arith, Option, Some}
use Rattle.std.specs.Prelude.{All, IsTrue, if◌then◌else◌}
use Rattle.std.proofs.Math.Seq.{drop-cons}
use Rattle.std.proofs.lemmas.List.{append-nil, length-append, length-drop, length-take, take-append-drop, take_all, take_more}
use Rattle.std.proofs.lemmas.List.Concat.{flat_map-append}
use Rattle.std.proofs.lemmas.List.Elements.{All-get_or, All-head, All-tail}
use Rattle.problem_data.specs.declared.problem.Problem.{Problem}
use Rattle.problem_data.specs.declared.problem.VehicleType.{VehicleType}
use Rattle.problem_data.specs.declared.visit.Visit.{Visit}
use Rattle.problem_data.specs.declared.visit.Visit.TheVariants.{Client}
use Rattle.problem_data.specs.Places.{place_count}
use Rattle.problem_data.specs.Valid.{IsValid}
use Rattle.problem_data.specs.Visits.{place_of}
use Rattle.routing_model.specs.Lawful.{names_place}
use Rattle.trips.specs.inside.LastPlaces.{place_behind}
use Rattle.trips.specs.Joints.{first_visit, last_visit}
use Rattle.trips.specs.Laws.{IsInRange}
use Rattle.trips.specs.RunSegments.{FitTogether, HoldsRun, JoinsAt, Leaves, Reaches, end_alone}
use Rattle.trips.specs.Runs.{Run, followed_by, whole}
use Rattle.trips.specs.declared.run_segment.RunSegment.{RunSegment}
use Rattle.trips.proofs.RunCounts.{named-listed}
use Rattle.trips.proofs.RunEnds.{reaches-first}
use Rattle.trips.proofs.RunPlaces.{leaves-all, place_behind-read, reaches-end}
use Rattle.trips.proofs.RunSteps.{place-named}
use Rattle.route_cache.specs.Lending.{IsLendable}
use Rattle.route_cache.specs.Routes.{IsTypeFor, ViewState, lent, run_of}
use Rattle.joined_views.specs.declared.open_run.OpenRun.{OpenRun}
use Rattle.joined_views.specs.inside.Folding.{FollowsOpen, Goes, IsNext}
use Rattle.joined_views.specs.Views.{IsNewList, IsOwn, lent_by}
use Rattle.joined_views.specs.inside.Joined.{IsOpen, begun_count, begun_run, is_ended, open_count, place_ahead}
use Rattle.joined_views.proofs.BothLists.{All-left, All-right}

-- a test that can't hold
pub no-test : (b : Bool) → (b ≡ true → ⊥) → b ≡ false
no-test true h = absurd (h refl)
no-test false h = refl

-- the first and the last of some visits
first-at : (xs : List Visit) (none : Visit) → 0 < length xs → first_visit xs ≡ Some (get_or xs 0 none)
first-at [] none some = absurd (omega arith)
first-at (x ∷ xs) none some = refl

last-from : (xs : List Visit) (i : ℕ) (none : Visit) → i + 1 ≡ length xs → last_visit xs ≡ Some (get_or xs i none)
last-from [] i none h = absurd (omega arith)
last-from (x ∷ []) zero none h = refl
last-from (x ∷ []) (suc i) none h = absurd (omega arith)
last-from (x ∷ y ∷ xs) zero none h = absurd (omega arith)
last-from (x ∷ y ∷ xs) (suc i) none h = last-from (y ∷ xs) i none (omega arith)

last-at : (xs : List Visit) (none : Visit) → 0 < length xs → last_visit xs ≡ Some (get_or xs (length xs - 1) none)
last-at xs none some = last-from xs (length xs - 1) none (omega arith)

ahead-at : (xs : List Visit) (place : ℕ) (none : Visit) → 0 < length xs → place_ahead xs place ≡ place_of (get_or xs 0 none)
ahead-at [] place none some = absurd (omega arith)
ahead-at (x ∷ xs) place none some = refl

behind-at : (xs : List Visit) (place : ℕ) (none : Visit) → 0 < length xs → place_behind place xs ≡ place_of (get_or xs (length xs - 1) none)
behind-at xs place none some = place_behind-read place xs (length xs - 1) none (omega arith)

-- a first view with the start is counted
pub begun-first : (views : List ViewState) (none : ViewState) → 0 < length views → (get_or views 0 none).starts ≡ true → begun_count views ≡ 1
begun-first [] none some h = absurd (omega arith)
begun-first (view ∷ rest) none some h = ap (λ (b : Bool). if b then 1 else 0) h

pub starts-first : (views : List ViewState) (none : ViewState) → (begun_count views ≡ 0 → ⊥) → (0 < length views) × ((get_or views 0 none).starts ≡ true)
starts-first [] none h = absurd (h refl)
starts-first (view ∷ rest) none h = (omega arith, counted view.starts h)
  where
    counted : (b : Bool) → (◌≡◌ {A = ℕ} (if b then 1 else 0) 0 → ⊥) → b ≡ true
    counted true h = refl
    counted false h = absurd (h refl)

pub first-inside : (views : List ViewState) (none : ViewState) → (begun_count views ≡ 0 → ⊥) → 0 < length views
first-inside views none h = (starts-first views none h).0

pub begun-one : (views : List ViewState) → (begun_count views ≡ 0 → ⊥) → begun_count views ≡ 1
begun-one [] h = absurd (h refl)
begun-one (view ∷ rest) h = counted view.starts h
  where
    counted : (b : Bool) → (◌≡◌ {A = ℕ} (if b then 1 else 0) 0 → ⊥) → ◌≡◌ {A = ℕ} (if b then 1 else 0) 1
    counted true h = refl
    counted false h = absurd (h refl)

-- the last view
pub ended-last : (views : List ViewState) (k : ℕ) (none : ViewState) → k + 1 ≡ length views → (get_or views k none).ends ≡ is_ended views
ended-last [] k none h = absurd (omega arith)
ended-last (view ∷ []) zero none h = refl
ended-last (view ∷ []) (suc k) none h = absurd (omega arith)
ended-last (view ∷ next ∷ rest) zero none h = absurd (omega arith)
ended-last (view ∷ next ∷ rest) (suc k) none h = ended-last (next ∷ rest) k none (omega arith)

pub some-ended : (views : List ViewState) → is_ended views ≡ true → 0 < length views
some-ended [] h = cc
some-ended (view ∷ rest) h = omega arith

pub open-less : (views : List ViewState) → is_ended views ≡ true → open_count views ≡ length views - 1
open-less views h = ap (λ (b : Bool). if b then length views - 1 else length views) h

pub open-all : (views : List ViewState) → is_ended views ≡ false → open_count views ≡ length views
open-all views h = ap (λ (b : Bool). if b then length views - 1 else length views) h

pub open-most : (views : List ViewState) → open_count views ≤ length views
open-most views = by (is_ended views)
  where
    by : (b : Bool) → (if b then length views - 1 else length views) ≤ length views
    by true = omega arith
    by false = omega arith

-- where not all views are open, the last one has the end
pub last-ended : (views : List ViewState) (none : ViewState) → (open_count views ≡ length views → ⊥) → (open_count views + 1 ≡ length views) × ((get_or views (open_count views) none).ends ≡ true)
last-ended views none h =
    let ended : is_ended views ≡ true = is (is_ended views) refl in
    let less = open-less views ended in
    let some = some-ended views ended in
    let one : open_count views + 1 ≡ length views = omega arith in
    (one, ended-last views (open_count views) none one ∙ ended)
  where
    is : (b : Bool) → is_ended views ≡ b → b ≡ true
    is true e = refl
    is false e = absurd (h (open-all views e))

-- the view at that number, as the code reads it
pub last-view : (count : ℕ) (views : List ViewState) (view : ViewState) → count ≡ open_count views → view ≡ get_or views count view → view ≡ get_or views (open_count views) view
last-view count views view e is = is ∙ ap (λ (k : ℕ). get_or views k view) e

pub length-lent : (view : ViewState) → view.first ≤ view.end → view.end ≤ length view.list → length (lent view) ≡ view.end - view.first
length-lent view in_order in_list =
    let a = length-take (view.end - view.first) (drop view.first view.list) in
    let b = length-drop view.first view.list in
    omega arith

-- a run with the end is reached at its first visit, or at the end
reaches-ahead : (p : Problem) (t : VehicleType) (visits : List Visit) → Reaches p t (record { starts = false; visits = visits; ends = true }) (place_ahead visits t.end)
reaches-ahead p t [] = reaches-end p t
reaches-ahead p t (x ∷ xs) = reaches-first p t (record { starts = false; visits = x ∷ xs; ends = true }) x refl refl

behind-there : (p : Problem) (start : ℕ) (visits : List Visit) → All (λ visit. IsTrue (names_place p visit)) visits → start < place_count p → place_behind start visits < place_count p
behind-there p start [] named there = there
behind-there p start (visit ∷ rest) named there =
    behind-there p (place_of visit) rest (All-tail (λ (visit : Visit). IsTrue (names_place p visit)) visit rest named)
    (place-named p visit (All-head (λ (visit : Visit). IsTrue (names_place p visit)) visit rest named))

ahead-there : (p : Problem) (end : ℕ) (visits : List Visit) → All (λ visit. IsTrue (names_place p visit)) visits → end < place_count p → place_ahead visits end < place_count p
ahead-there p end [] named there = there
ahead-there p end (visit ∷ rest) named there = place-named p visit (All-head (λ (visit : Visit). IsTrue (names_place p visit)) visit rest named)

-- what the first so many views lend, with one view more
pub lent-more : (views : List ViewState) (k : ℕ) (none : ViewState) → k < length views → lent_by (take (k + 1) views) ≡ lent_by (take k views) ++ lent (get_or views k none)
lent-more views k none inside =
    ap lent_by (take_more views k none inside)
    ∙ (flat_map-append lent (take k views) (get_or views k none ∷ []) ∙ ap (λ (vs : List Visit). lent_by (take k views) ++ vs) (append-nil (lent (get_or views k none))))

module _ (p : Problem) (t : VehicleType) (views : List ViewState) (valid : IsValid p) (new : IsNewList p t views) where
  in-range : (xs ys zs : List Visit) (starts ends : Bool) → lent_by views ≡ xs ++ (ys ++ zs) → IsInRange p t (record { starts = starts; visits = ys; ends = ends })
  in-range xs ys zs starts ends cut = record {
    is_run = record {
      valid = valid;
      allowed = new.allowed;
      named = All-left (λ (visit : Visit). IsTrue (names_place p visit)) ys zs
          (All-right (λ (visit : Visit). IsTrue (names_place p visit)) xs (ys ++ zs)
          (subst (All (λ (visit : Visit). IsTrue (names_place p visit))) cut (named-listed p (lent_by views) new.listed)));
    };
    few =
        let a = length-append xs (ys ++ zs) in
        let b = length-append ys zs in
        let c = ap (λ (vs : List Visit). length vs) cut in
        omega (arith, new.listed.few);
  }

  cut-behind : (k : ℕ) → lent_by views ≡ lent_by (take k views) ++ lent_by (drop k views)
  cut-behind k = ap lent_by (sym (take-append-drop k views)) ∙ flat_map-append lent (take k views) (drop k views)

  cut-at : (k : ℕ) (none : ViewState) → k < length views → lent_by views ≡ lent_by (take k views) ++ (lent (get_or views k none) ++ lent_by (drop (suc k) views))
  cut-at k none inside = cut-behind k ∙ ap (λ (vs : List ViewState). lent_by (take k views) ++ lent_by vs) (drop-cons views k none inside)

  pub view-range : (k : ℕ) (none : ViewState) → k < length views → IsInRange p t (run_of (get_or views k none))
  view-range k none inside = in-range (lent_by (take k views)) (lent (get_or views k none)) (lent_by (drop (suc k) views)) _ _ (cut-at k none inside)

  before-range : (k : ℕ) → IsInRange p t (begun_run views k)
  before-range k = in-range [] (lent_by (take k views)) (lent_by (drop k views)) true false (cut-behind k)

  pub view-own : (k : ℕ) (none : ViewState) → k < length views → IsOwn p t (get_or views k none)
  view-own k none inside = record {
    own_start = λ h. typed (get_or views k none).vehicle (new.placed.own_start k none inside h);
    own_end = λ h. typed (get_or views k none).vehicle (new.placed.own_end k none inside h);
  }
    where
      typed : (vehicle : Option ℕ) → vehicle ≡ Some new.vehicle → IsTypeFor p vehicle t
      typed vehicle e = subst (λ (v : Option ℕ). IsTypeFor p v t) (sym e) new.is_type

  pub view-problem : (k : ℕ) (none : ViewState) → k < length views → (get_or views k none).problem ≡ p
  view-problem k none inside = All-get_or (λ (v : ViewState). v.problem ≡ p) views k none inside new.placed.same

  lendable-at : (k : ℕ) (none : ViewState) → k < length views → IsLendable (get_or views k none)
  lendable-at k none inside = All-get_or IsLendable views k none inside new.placed.lendable

  -- the first view, where it has the start
  pub first-open : (segment : RunSegment) (last : ℕ) (none : ViewState) → (begun_count views ≡ 0 → ⊥) → HoldsRun p t segment (run_of (get_or views 0 none)) →
      last ≡ place_behind t.start (lent (get_or views 0 none)) → t.start < place_count p → IsOpen p t (record { so_far = segment; last = last }) (begun_run views (begun_count views))
  first-open segment last none begun holds is_last there =
      let first = starts-first views none begun in
      let closed = (lendable-at 0 none first.0).not_both first.1 in
      let run : run_of (get_or views 0 none) ≡ begun_run views 1 = λ i. record { starts = first.1 i; visits = sym (lent-more views 0 none first.0) i; ends = closed i } in
      subst (λ (k : ℕ). IsOpen p t (record { so_far = segment; last = last }) (begun_run views k)) (sym (begun-one views begun))
      (record {
        holds = subst (HoldsRun p t segment) run holds;
        goes_on = refl;
        leaves = subst (Leaves p t (begun_run views 1)) (ap (place_behind t.start) (lent-more views 0 none first.0) ∙ sym is_last) (leaves-all p t (lent_by (take 1 views)));
        there = subst (λ (n : ℕ). n < place_count p) (ap (place_behind t.start) (lent-more views 0 none first.0) ∙ sym is_last)
            (behind-there p t.start (lent_by (take 1 views)) (before-range 1).is_run.named there);
      })

  -- a view that has neither the start nor the end
  module _ (k : ℕ) (none : ViewState) (begun : begun_count views ≤ k) (inside : k < open_count views) where
    here : k < length views
    here = let most = open-most views in omega arith

    not-begun : (get_or views k none).starts ≡ false
    not-begun = no-test (get_or views k none).starts (λ h. never (new.placed.begins k none here h) h)
      where
        never : k ≡ 0 → (get_or views k none).starts ≡ true → ⊥
        never e h = let now : k < length views = here in let one = begun-first views none (omega arith) (ap (λ (i : ℕ). (get_or views i none).starts) (sym e) ∙ h) in omega arith

    goes-on : (get_or views k none).ends ≡ false
    goes-on = no-test (get_or views k none).ends never
      where
        never : (get_or views k none).ends ≡ true → ⊥
        never h =
            let last = new.placed.ends k none here h in
            let less = open-less views (sym (ended-last views k none last) ∙ h) in
            omega arith

    some : 0 < length (lent (get_or views k none))
    some =
        let lendable = lendable-at k none here in
        let long = length-lent (get_or views k none) lendable.in_order lendable.in_list in
        let less = lendable.some not-begun goes-on in
        omega arith

    longer : begun_run views (k + 1) ≡ followed_by (begun_run views k) (run_of (get_or views k none))
    longer = λ i. record { starts = true; visits = lent-more views k none here i; ends = sym goes-on i }

    next-run : (segment : RunSegment) (first last : ℕ) → HoldsRun p t segment (run_of (get_or views k none)) → first ≡ place_ahead (lent (get_or views k none)) t.end →
        last ≡ place_behind t.start (lent (get_or views k none)) → IsNext p t segment first last (run_of (get_or views k none))
    next-run segment first last holds is_first is_last =
        let xs = lent (get_or views k none) in
        record {
          holds = holds;
          begun = not-begun;
          goes_on = goes-on;
          first_at = get_or xs 0 (Client 0);
          last_at = get_or xs (length xs - 1) (Client 0);
          is_first = first-at xs (Client 0) some;
          is_last = last-at xs (Client 0) some;
          reached = sym (is_first ∙ ahead-at xs t.end (Client 0) some);
          left = sym (is_last ∙ behind-at xs t.start (Client 0) some);
        }

    pub first-there : (first : ℕ) → first ≡ place_ahead (lent (get_or views k none)) t.end → t.end < place_count p → first < place_count p
    first-there first is there =
        subst (λ (n : ℕ). n < place_count p) (sym is) (ahead-there p t.end (lent (get_or views k none)) (view-range k none here).is_run.named there)

    pub last-there : (last : ℕ) → last ≡ place_behind t.start (lent (get_or views k none)) → t.start < place_count p → last < place_count p
    last-there last is there =
        subst (λ (n : ℕ). n < place_count p) (sym is) (behind-there p t.start (lent (get_or views k none)) (view-range k none here).is_run.named there)

    pub view-follows : (front : OpenRun) (segment : RunSegment) (first last : ℕ) → IsOpen p t front (begun_run views k) → HoldsRun p t segment (run_of (get_or views k none)) →
        first ≡ place_ahead (lent (get_or views k none)) t.end → last ≡ place_behind t.start (lent (get_or views k none)) → FollowsOpen p t front segment first last
    view-follows front segment first last is_open holds is_first is_last = record {
      left_run = begun_run views k;
      right_run = run_of (get_or views k none);
      is_open = is_open;
      is_next = next-run segment first last holds is_first is_last;
      in_range = subst (IsInRange p t) longer (before-range (k + 1));
    }

    pub view-goes : (front behind : OpenRun) (segment : RunSegment) (first last : ℕ) → IsOpen p t front (begun_run views k) → HoldsRun p t segment (run_of (get_or views k none)) →
        first ≡ place_ahead (lent (get_or views k none)) t.end → last ≡ place_behind t.start (lent (get_or views k none)) → Goes p t front segment first last behind →
        IsOpen p t behind (begun_run views (k + 1))
    view-goes front behind segment first last is_open holds is_first is_last goes =
        subst (IsOpen p t behind) (sym longer)
        (goes (begun_run views k) (run_of (get_or views k none)) is_open (next-run segment first last holds is_first is_last) (subst (IsInRange p t) longer (before-range (k + 1))))

  -- the end alone
  all-lent : lent_by (take (length views) views) ≡ lent_by views
  all-lent = ap lent_by (take_all (length views) views (omega arith))

  whole-range : IsInRange p t (whole (lent_by views))
  whole-range = in-range [] (lent_by views) [] true true (sym (append-nil (lent_by views)))

  module _ (all : open_count views ≡ length views) where
    end-whole : followed_by (begun_run views (open_count views)) end_alone ≡ whole (lent_by views)
    end-whole = λ i. record { starts = true; visits = (append-nil (lent_by (take (open_count views) views)) ∙ ap (λ (k : ℕ). lent_by (take k views)) all ∙ all-lent) i; ends = true }

    pub end-fits : (front : OpenRun) (end : RunSegment) → IsOpen p t front (begun_run views (open_count views)) → HoldsRun p t end end_alone → FitTogether p t front.so_far front.last end t.end
    end-fits front end is_open holds = record {
      left = begun_run views (open_count views);
      right = end_alone;
      holds_left = is_open.holds;
      holds_right = holds;
      follows = record { goes_on = refl; begun = refl };
      leaves = is_open.leaves;
      reaches = reaches-end p t;
      in_range = subst (IsInRange p t) (sym end-whole) whole-range;
    }

    pub end-holds : (front : OpenRun) (end both : RunSegment) → IsOpen p t front (begun_run views (open_count views)) → HoldsRun p t end end_alone → JoinsAt p t front.so_far front.last end t.end both →
        HoldsRun p t both (whole (lent_by views))
    end-holds front end both is_open holds joins =
        subst (HoldsRun p t both) end-whole
        (joins (begun_run views (open_count views)) end_alone is_open.holds holds (record { goes_on = refl; begun = refl }) is_open.leaves (reaches-end p t)
        (subst (IsInRange p t) (sym end-whole) whole-range))

  -- the last view, where it has the end
  module _ (none : ViewState) (less : open_count views ≡ length views → ⊥) where
    pub last-inside : open_count views < length views
    last-inside = let last = last-ended views none less in omega (arith, last.0)

    last-starts : (get_or views (open_count views) none).starts ≡ false
    last-starts = no-test (get_or views (open_count views) none).starts (λ h. never (sym ((lendable-at (open_count views) none last-inside).not_both h) ∙ (last-ended views none less).1))
      where
        never : false ≡ true → ⊥
        never h = cc

    last-run : run_of (get_or views (open_count views) none) ≡ record { starts = false; visits = lent (get_or views (open_count views) none); ends = true }
    last-run = λ i. record { starts = last-starts i; visits = lent (get_or views (open_count views) none); ends = (last-ended views none less).1 i }

    last-whole : followed_by (begun_run views (open_count views)) (run_of (get_or views (open_count views) none)) ≡ whole (lent_by views)
    last-whole = λ i. record {
      starts = true;
      visits = (sym (lent-more views (open_count views) none last-inside) ∙ ap (λ (k : ℕ). lent_by (take k views)) (last-ended views none less).0 ∙ all-lent) i;
      ends = (last-ended views none less).1 i;
    }

    pub last-first : (first : ℕ) → first ≡ place_ahead (lent (get_or views (open_count views) none)) t.end → t.end < place_count p → first < place_count p
    last-first first is there =
        subst (λ (n : ℕ). n < place_count p) (sym is) (ahead-there p t.end (lent (get_or views (open_count views) none)) (view-range (open_count views) none last-inside).is_run.named there)

    reaches-last : (first : ℕ) → first ≡ place_ahead (lent (get_or views (open_count views) none)) t.end → Reaches p t (run_of (get_or views (open_count views) none)) first
    reaches-last first is =
        subst (λ (run : Run). Reaches p t run first) (sym last-run)
        (subst (Reaches p t (record { starts = false; visits = lent (get_or views (open_count views) none); ends = true })) (sym is) (reaches-ahead p t (lent (get_or views (open_count views) none))))

    pub last-fits : (front : OpenRun) (end : RunSegment) (first : ℕ) → IsOpen p t front (begun_run views (open_count views)) → HoldsRun p t end (run_of (get_or views (open_count views) none)) →
        first ≡ place_ahead (lent (get_or views (open_count views) none)) t.end → FitTogether p t front.so_far front.last end first
    last-fits front end first is_open holds is_first = record {
      left = begun_run views (open_count views);
      right = run_of (get_or views (open_count views) none);
      holds_left = is_open.holds;
      holds_right = holds;
      follows = record { goes_on = refl; begun = last-starts };
      leaves = is_open.leaves;
      reaches = reaches-last first is_first;
      in_range = subst (IsInRange p t) (sym last-whole) whole-range;
    }

    pub last-holds : (front : OpenRun) (end both : RunSegment) (first : ℕ) → IsOpen p t front (begun_run views (open_count views)) → HoldsRun p t end (run_of (get_or views (open_count views) none)) →
        first ≡ place_ahead (lent (get_or views (open_count views) none)) t.end → JoinsAt p t front.so_far front.last end first both → HoldsRun p t both (whole (lent_by views))
    last-holds front end both first is_open holds is_first joins =
        subst (HoldsRun p t both) last-whole
        (joins (begun_run views (open_count views)) (run_of (get_or views (open_count views) none)) is_open.holds holds (record { goes_on = refl; begun = last-starts }) is_open.leaves
        (reaches-last first is_first) (subst (IsInRange p t) (sym last-whole) whole-range))
