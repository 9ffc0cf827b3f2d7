-- The visits of the places: the table that is made, and what it has at a place.
use Rattle.std.proofs.Common.{◌≡◌, ℕ, ◌+◌, ◌-◌, ◌<◌, List, [], ◌∷◌, length, get_or, take, drop, map, refl, ap, ◌∙◌, arith, ◌&&◌, nat_le, nat_lt, slice_range, if◌then◌else◌, ⊎_elim}
use Rattle.std.specs.List.{range_with_len}
use Rattle.std.proofs.Math.Seq.{drop-cons}
use Rattle.std.proofs.lemmas.Bool.{cases_lt, le-leb, lt-leb, lt-ltb, le-ltb}
use Rattle.std.proofs.lemmas.List.FromFn.{get_or-map-range_with_len, length-map-range_with_len, fill_by_all}
use Rattle.problem_data.specs.declared.problem.Problem.{Problem}
use Rattle.problem_data.specs.declared.visit.Visit.{Visit}
use Rattle.problem_data.specs.declared.visit.Visit.TheVariants.{Client, Reload}
use Rattle.problem_data.specs.Places.{depot_count, place_count}
use Rattle.problem_data.specs.Tables.{visit_at, visits_of_places}

-- the visit of a place, where the places below the first number are the depots'
abbrev pub visit_by_depots : ℕ → ℕ → Visit
visit_by_depots depots place = if nat_lt place depots then Reload place else Client place

same_visit : (depots places place : ℕ) → place < places → visit_by_depots depots place ≡ (if nat_le depots place && nat_lt place places then Client place else Reload place)
same_visit depots places place h =
    ⊎_elim
    (λ below. rw (lt-ltb place depots below, lt-leb depots place below) refl)
    (λ above. rw (le-ltb place depots above, le-leb depots place above, lt-ltb place places h) refl)
    (cases_lt place depots)

-- the table made by the number of depots is the problem's
pub visits_by_depots : (p : Problem) → map (visit_by_depots (depot_count p)) (range_with_len 0 (place_count p)) ≡ visits_of_places p
visits_by_depots p =
    let f = visit_by_depots (depot_count p) in
    fill_by_all (visit_at p) (map f (range_with_len 0 (place_count p))) (place_count p) (Client 0)
    (length-map-range_with_len f 0 (place_count p))
    (λ k h. get_or-map-range_with_len f 0 (place_count p) k k (Client 0) h (omega arith) ∙ same_visit (depot_count p) (place_count p) k h)

alone : {X : Type 0} (xs : List X) (i : ℕ) (d : X) → i < length xs → take (i + 1 - i) (drop i xs) ≡ get_or xs i d ∷ []
alone xs i d h =
    let one : i + 1 - i ≡ 1 = omega arith in
    ap (λ k. take k (drop i xs)) one ∙ ap (λ ys. take 1 ys) (drop-cons xs i d h)

pub length-visits_of_places : (p : Problem) → length (visits_of_places p) ≡ place_count p
length-visits_of_places p = length-map-range_with_len (visit_at p) 0 (place_count p)

-- what the table has at a place
pub visit_alone : (p : Problem) (place : ℕ) (table taken : List Visit) → place < place_count p → table ≡ visits_of_places p → taken ≡ slice_range table place (place + 1) → taken ≡ visit_at p place ∷ []
visit_alone p place table taken h is_table is_taken =
    let long : length (visits_of_places p) ≡ place_count p = length-visits_of_places p in
    is_taken
    ∙ ap (λ xs. slice_range xs place (place + 1)) is_table
    ∙ alone (visits_of_places p) place (Client 0) (omega arith)
    ∙ ap (λ v. v ∷ []) (get_or-map-range_with_len (visit_at p) 0 (place_count p) place place (Client 0) h (omega arith))
