-- How far it is along the parts of a list.
use Rattle.std.proofs.Common.{◌≡◌, ℕ, ◌+◌, ◌-◌, ◌<◌, ◌≤◌, Bool, true, false, List, [], ◌∷◌, ◌++◌, length, get_or, drop, take, refl, ◌∙◌, ap, sym, arith, slice_range, nat_lt, ◌⊎◌, inl, inr}
use Rattle.std.specs.Prelude.{IsTrue}
use Rattle.std.proofs.lemmas.Bool.Decides.{nat_tests}
use Rattle.std.proofs.lemmas.List.{drop_all, length-drop, take_all}
use Rattle.problem_data.specs.declared.problem.Problem.{Problem}
use Rattle.problem_data.specs.declared.problem.VehicleType.{VehicleType}
use Rattle.problem_data.specs.declared.visit.Visit.{Visit}
use Rattle.problem_data.specs.declared.visit.Visit.TheVariants.{Client, Reload}
use Rattle.problem_data.specs.Places.{leg_distance}
use Rattle.problem_data.specs.Valid.{IsValid, IsValidType}
use Rattle.routing_model.specs.Clock.{Stop, joint}
use Rattle.routing_model.specs.Cost.{length_of}
use Rattle.routing_model.specs.Lawful.{names_place}
use Rattle.routing_model.specs.Listed.{IsListed}
use Rattle.segments.proofs.StopLengths.{length_of-append}
use Rattle.trips.specs.RunSegments.{alone}
use Rattle.trips.specs.Runs.{Run, Follows, followed_by, run_stops}
use Rattle.trips.proofs.Places.{joint-nothing}
use Rattle.trips.proofs.RunPlaces.{leaves-alone, leaves-longer, places-runs, same_length}
use Rattle.trips.proofs.RunSteps.{named-at}
use Rattle.trips.proofs.RunVisits.{depot-rests}
use Rattle.route_cache.specs.inside.Lookups.{run_along}
use Rattle.route_cache.specs.Marks.{run_to}
use Rattle.route_cache.proofs.Slices.{slice-before, slice-more, slice-split}

-- the length of a run
abbrev length_along : Problem → VehicleType → Run → ℕ
length_along p t run = length_of (leg_distance p t.profile) (run_stops p t run)

-- a visit alone has none
length-alone : (p : Problem) (t : VehicleType) (visit : Visit) → IsValid p → IsValidType p t → IsTrue (names_place p visit) → length_along p t (alone visit) ≡ 0
length-alone p t (Client place) valid allowed named = refl
length-alone p t (Reload depot) valid allowed named = no_way (leg_distance p t.profile depot depot) (depot-rests p t depot valid allowed named)
  where
    no_way : (n : ℕ) → n ≡ 0 → n + 0 ≡ 0
    no_way n e = omega arith

-- two runs, one behind the other
length-runs : (p : Problem) (t : VehicleType) (x y : Run) → Follows x y →
    length_along p t (followed_by x y) ≡ length_along p t x + length_along p t y + joint (leg_distance p t.profile) (run_stops p t x) (run_stops p t y)
length-runs p t x y follows =
    sym (same_length (leg_distance p t.profile) (run_stops p t x ++ run_stops p t y) (run_stops p t (followed_by x y)) (places-runs p t x y follows))
    ∙ length_of-append (leg_distance p t.profile) (run_stops p t x) (run_stops p t y)

-- two lists of stops that are left at one place
joint-left : (leg : ℕ → ℕ → ℕ) (xs other ys : List Stop) (place : ℕ) → ((leg : ℕ → ℕ → ℕ) (y : Stop) (ys : List Stop) → joint leg xs (y ∷ ys) ≡ leg place y.place) →
    ((leg : ℕ → ℕ → ℕ) (y : Stop) (ys : List Stop) → joint leg other (y ∷ ys) ≡ leg place y.place) → joint leg xs ys ≡ joint leg other ys
joint-left leg xs other [] place h k = joint-nothing leg xs ∙ sym (joint-nothing leg other)
joint-left leg xs other (y ∷ ys) place h k = h leg y ys ∙ sym (k leg y ys)

-- a run, cut at a visit that belongs to both parts
length-cut : (p : Problem) (t : VehicleType) (x : Run) (visit : Visit) (y : Run) → IsValid p → IsValidType p t → IsTrue (names_place p visit) → x.ends ≡ false → y.starts ≡ false →
    length_along p t (followed_by (followed_by x (alone visit)) y) ≡ length_along p t (followed_by x (alone visit)) + length_along p t (followed_by (alone visit) y)
length-cut p t x visit y valid allowed named goes_on begun =
    let a = length-runs p t (followed_by x (alone visit)) y (record { goes_on = refl; begun = begun }) in
    let b = length-runs p t (alone visit) y (record { goes_on = refl; begun = begun }) in
    let none = length-alone p t visit valid allowed named in
    let same = joint-left (leg_distance p t.profile) (run_stops p t (followed_by x (alone visit))) (run_stops p t (alone visit)) (run_stops p t y) _ (leaves-longer p t x visit goes_on) (leaves-alone p t visit) in
    summed _ _ _ _ _ _ _ a b none same
  where
    summed : (whole left right one behind j k : ℕ) → whole ≡ left + right + j → behind ≡ one + right + k → one ≡ 0 → j ≡ k → whole ≡ left + behind
    summed whole left right one behind j k a b none same = omega arith

-- the same of parts of a list
length-part : (p : Problem) (t : VehicleType) (visits : List Visit) (starts : Bool) (a i c : ℕ) (ends : Bool) → IsValid p → IsValidType p t → IsListed p visits → a ≤ i → i < c → i < length visits →
    length_along p t (record { starts = starts; visits = slice_range visits a c; ends = ends })
    ≡ length_along p t (record { starts = starts; visits = slice_range visits a (i + 1); ends = false }) + length_along p t (record { starts = false; visits = slice_range visits i c; ends = ends })
length-part p t visits starts a i c ends valid allowed listed h k here =
    let visit = get_or visits i (Client 0) in
    let cut = length-cut p t (record { starts = starts; visits = slice_range visits a i; ends = false }) visit (record { starts = false; visits = slice_range visits (i + 1) c; ends = ends })
    valid allowed (named-at p visits i (Client 0) listed here) refl refl in
    let left : slice_range visits a (i + 1) ≡ slice_range visits a i ++ visit ∷ [] = slice-more visits a i (Client 0) h here in
    let all : slice_range visits a c ≡ (slice_range visits a i ++ visit ∷ []) ++ slice_range visits (i + 1) c =
    slice-split visits a (i + 1) c (omega arith) (omega arith) ∙ ap (λ xs. xs ++ slice_range visits (i + 1) c) left in
    let right : slice_range visits i c ≡ visit ∷ slice_range visits (i + 1) c = slice-before visits i c (Client 0) k here in
    ap (λ (xs : List Visit). length_along p t (record { starts = starts; visits = xs; ends = ends })) all
    ∙ cut
    ∙ (λ j. length_along p t (record { starts = starts; visits = sym left j; ends = false }) + length_along p t (record { starts = false; visits = sym right j; ends = ends }))

no_stop : (p : Problem) (t : VehicleType) (ends : Bool) → length_along p t (record { starts = false; visits = []; ends = ends }) ≡ 0
no_stop p t true = refl
no_stop p t false = refl

cases : (from n : ℕ) → from ≤ n + 1 → (from ≤ n) ⊎ (from ≡ n + 1)
cases from n h = grind arith

-- from a position to a later one: the difference of what is driven up to both
pub length-along : (p : Problem) (t : VehicleType) (visits : List Visit) (from to : ℕ) → IsValid p → IsValidType p t → IsListed p visits → 1 ≤ from → from ≤ to → to ≤ length visits + 1 →
    length_of (leg_distance p t.profile) (run_stops p t (run_to visits to))
    ≡ length_of (leg_distance p t.profile) (run_stops p t (run_to visits from)) + length_of (leg_distance p t.profile) (run_stops p t (run_along visits from to))
length-along p t visits from to valid allowed listed some in_order in_list =
    elim (cases from (length visits) (omega arith)) [
      | inl h ↦
          let part = length-part p t visits true 0 (from - 1) to (nat_lt (length visits) to) valid allowed listed (omega arith) (omega arith) (omega arith) in
          let e : from - 1 + 1 ≡ from = omega arith in
          let no : false ≡ nat_lt (length visits) from = grind (arith, nat_tests) in
          part
          ∙ ap (λ (n : ℕ). length_along p t (record { starts = true; visits = slice_range visits 0 n; ends = false }) + length_along p t (run_along visits from to)) e
          ∙ ap (λ (b : Bool). length_along p t (record { starts = true; visits = slice_range visits 0 from; ends = b }) + length_along p t (run_along visits from to)) no
      | inr h ↦
          let same : to ≡ from = omega arith in
          let past : length visits ≤ from - 1 = omega arith in
          let nothing : slice_range visits (from - 1) to ≡ [] = ap (take (to - (from - 1))) (drop_all (from - 1) visits past) ∙ nothing_of (to - (from - 1)) in
          let none : length_along p t (run_along visits from to) ≡ 0 =
          ap (λ (xs : List Visit). length_along p t (record { starts = false; visits = xs; ends = nat_lt (length visits) to })) nothing ∙ no_stop p t (nat_lt (length visits) to) in
          added _ _ _ (ap (λ (n : ℕ). length_along p t (run_to visits n)) same) none
    ]
  where
    nothing_of : (n : ℕ) → take {A = Visit} n [] ≡ []
    nothing_of n = take_all n [] (omega arith)

    added : (a b c : ℕ) → a ≡ b → c ≡ 0 → a ≡ b + c
    added a b c e f = omega arith

-- to the end
pub part-to_end : (visits : List Visit) (first : ℕ) → slice_range visits (first + 1 - 1) (length visits + 1) ≡ slice_range visits first (length visits)
part-to_end visits first =
    let e : first + 1 - 1 ≡ first = omega arith in
    ap (λ (n : ℕ). slice_range visits n (length visits + 1)) e
    ∙ take_all (length visits + 1 - first) (drop first visits) (omega (arith, length-drop first visits))
    ∙ sym (take_all (length visits - first) (drop first visits) (omega (arith, length-drop first visits)))
