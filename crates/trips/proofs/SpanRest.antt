-- The trips of the visits that are left, where the first of them has begun.
use Rattle.std.proofs.Common.{◌≡◌, ℕ, suc, ◌+◌, List, [], ◌∷◌, ◌++◌, length, take, drop, map, refl, ◌∙◌, ap, sym, append_assoc, arith, slice_range, ◌-◌, length-append}
use Rattle.std.proofs.lemmas.List.{append-nil}
use Rattle.problem_data.specs.declared.visit.Visit.{Visit}
use Rattle.problem_data.specs.declared.visit.Visit.TheVariants.{Client, Reload}
use Rattle.routing_model.specs.Load.{first_trip, later_trips}
use Rattle.trips.specs.declared.trip.Trip.{Trip}
use Rattle.trips.specs.Spans.{spans_from, trips_in, trip_visits, visits_of}

abbrev pub trip : ℕ → ℕ → Trip
trip first end = record { first = first; end = end }

-- the trips of these visits, which stand at i, where the first trip began before
abbrev pub rest_spans : ℕ → ℕ → List Visit → List Trip
rest_spans first i rest = trip first (i + length (first_trip rest)) ∷ spans_from (i + length (first_trip rest) + 1) (later_trips rest)

pub at_client : (first i place : ℕ) (rest : List Visit) → rest_spans first i (Client place ∷ rest) ≡ rest_spans first (i + 1) rest
at_client first i place rest =
    let e : i + suc (length (first_trip rest)) ≡ i + 1 + length (first_trip rest) = omega arith in
    λ k. trip first (e k) ∷ spans_from (e k + 1) (later_trips rest)

pub at_reload : (first i depot : ℕ) (rest : List Visit) → rest_spans first i (Reload depot ∷ rest) ≡ trip first i ∷ rest_spans (i + 1) (i + 1) rest
at_reload first i depot rest =
    let e : i + 0 ≡ i = omega arith in
    λ k. trip first (e k) ∷ rest_spans (e k + 1) (e k + 1) rest

pub at_end : (first i : ℕ) → rest_spans first i [] ≡ trip first i ∷ []
at_end first i = let e : i + 0 ≡ i = omega arith in λ k. trip first (e k) ∷ []

-- clients as visits
abbrev visits_at : List ℕ → List Visit
visits_at clients = map (λ place. Client place) clients

-- what stands between two lists
between : (before middle behind : List Visit) → slice_range (before ++ (middle ++ behind)) (length before) (length before + length middle) ≡ middle
between before middle behind =
    let n : length before + length middle - length before ≡ length middle = omega arith in
    (λ i. take (n i) (drop-length-append before (middle ++ behind) i)) ∙ take-length-append middle behind
  where
    drop-length-append : (xs ys : List Visit) → drop (length xs) (xs ++ ys) ≡ ys
    drop-length-append [] ys = refl
    drop-length-append (x ∷ xs) ys = drop-length-append xs ys

    take-length-append : (xs ys : List Visit) → take (length xs) (xs ++ ys) ≡ xs
    take-length-append [] ys = refl
    take-length-append (x ∷ xs) ys = ap (λ (zs : List Visit). x ∷ zs) (take-length-append xs ys)

length-visits_at : (clients : List ℕ) → length (visits_at clients) ≡ length clients
length-visits_at [] = refl
length-visits_at (x ∷ xs) = ap suc (length-visits_at xs)

visits_at-append : (xs ys : List ℕ) → visits_at (xs ++ ys) ≡ visits_at xs ++ visits_at ys
visits_at-append [] ys = refl
visits_at-append (x ∷ xs) ys = ap (λ (zs : List Visit). Client x ∷ zs) (visits_at-append xs ys)

-- the visits of a trip that has begun
seen_visits : (all before : List Visit) (seen : List ℕ) (behind : List Visit) (first end : ℕ) → all ≡ before ++ (visits_at seen ++ behind) → first ≡ length before →
    end ≡ length before + length seen → visits_of all (trip first end) ≡ visits_at seen
seen_visits all before seen behind first end e f g =
    let n : length before + length seen ≡ length before + length (visits_at seen) = ap (λ (k : ℕ). length before + k) (sym (length-visits_at seen)) in
    (λ i. slice_range (e i) (f i) ((g ∙ n) i)) ∙ between before (visits_at seen) behind

-- the visits of the trips that are left, and of the one that has begun
spans-visits : (all before : List Visit) (seen : List ℕ) (rest : List Visit) (first i : ℕ) → all ≡ before ++ (visits_at seen ++ rest) → first ≡ length before →
    i ≡ length before + length seen → map (visits_of all) (rest_spans first i rest) ≡ map visits_at ((seen ++ first_trip rest) ∷ later_trips rest)
spans-visits all before seen [] first i e f g =
    ap (λ (xs : List Trip). map (visits_of all) xs) (at_end first i)
    ∙ (λ k. (seen_visits all before seen [] first i e f g ∙ ap visits_at (sym (append-nil seen))) k ∷ [])
spans-visits all before seen (Client place ∷ rest) first i e f g =
    let moved : all ≡ before ++ (visits_at (seen ++ place ∷ []) ++ rest) =
    e ∙ ap (λ (zs : List Visit). before ++ zs) (sym (append_assoc (visits_at seen) (Client place ∷ []) rest) ∙ ap (λ (zs : List Visit). zs ++ rest) (sym (visits_at-append seen (place ∷ [])))) in
    let longer : i + 1 ≡ length before + length (seen ++ place ∷ []) = omega (arith, length-append seen (place ∷ [])) in
    ap (λ (xs : List Trip). map (visits_of all) xs) (at_client first i place rest)
    ∙ spans-visits all before (seen ++ place ∷ []) rest first (i + 1) moved f longer
    ∙ ap (λ (xs : List ℕ). map visits_at (xs ∷ later_trips rest)) (append_assoc seen (place ∷ []) (first_trip rest))
spans-visits all before seen (Reload depot ∷ rest) first i e f g =
    let front = before ++ (visits_at seen ++ Reload depot ∷ []) in
    let moved : all ≡ front ++ ([] ++ rest) =
    e ∙ ap (λ (zs : List Visit). before ++ zs) (sym (append_assoc (visits_at seen) (Reload depot ∷ []) rest)) ∙ sym (append_assoc before (visits_at seen ++ Reload depot ∷ []) rest) in
    let longer : i + 1 ≡ length front =
    omega (arith, length-append before (visits_at seen ++ Reload depot ∷ []), length-append (visits_at seen) (Reload depot ∷ []), length-visits_at seen) in
    let later = spans-visits all front [] rest (i + 1) (i + 1) moved longer (omega arith) in
    ap (λ (xs : List Trip). map (visits_of all) xs) (at_reload first i depot rest)
    ∙ (λ k. (seen_visits all before seen (Reload depot ∷ rest) first i e f g ∙ ap visits_at (sym (append-nil seen))) k ∷ later k)

-- the visits of a list's trips are their clients
pub spans-clients : (visits : List Visit) → map (visits_of visits) (spans_from 0 (trips_in visits)) ≡ trip_visits visits
spans-clients [] = refl
spans-clients (visit ∷ rest) = spans-visits (visit ∷ rest) [] [] (visit ∷ rest) 0 0 refl refl refl
