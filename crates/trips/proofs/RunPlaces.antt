-- The places of runs, and their legs.
use Rattle.std.proofs.Common.{◌≡◌, ℕ, suc, ◌+◌, ◌*◌, ◌≤◌, Bool, true, false, List, [], ◌∷◌, ◌++◌, length, map, refl, ◌∙◌, ap, sym, append_assoc, arith, Option, Some, None, ◌<◌, get_or, take}
use Rattle.std.proofs.lemmas.List.{append-nil, take_all, take_more}
use Rattle.problem_data.specs.declared.problem.Problem.{Problem}
use Rattle.problem_data.specs.declared.problem.VehicleType.{VehicleType}
use Rattle.problem_data.specs.declared.visit.Visit.{Visit}
use Rattle.problem_data.specs.declared.visit.Visit.TheVariants.{Client, Reload}
use Rattle.problem_data.specs.Limits.{largest_leg}
use Rattle.problem_data.specs.Places.{depot_at}
use Rattle.routing_model.specs.Clock.{Stop, joint, last_place}
use Rattle.routing_model.specs.Cost.{length_of}
use Rattle.routing_model.specs.Stops.{stop_at, trip_release, visit_stops}
use Rattle.trips.specs.Runs.{Run, Follows, client_stop, departure_stop, followed_by, run_stops, start_stop, stops_before, stops_behind}
use Rattle.trips.proofs.Places.{last_of, last_of-append}
use Rattle.trips.specs.inside.LastPlaces.{place_behind}
use Rattle.trips.specs.RunSegments.{Leaves, Reaches, alone, end_alone, start_alone}
use Rattle.problem_data.specs.Visits.{place_of}

-- the places of some stops
abbrev pub places : List Stop → List ℕ
places stops = map (λ stop. stop.place) stops

-- the legs from place to place
abbrev legs : (ℕ → ℕ → ℕ) → List ℕ → ℕ
legs leg [] = 0
legs leg (x ∷ []) = 0
legs leg (x ∷ y ∷ rest) = leg x y + legs leg (y ∷ rest)

length_of-legs : (leg : ℕ → ℕ → ℕ) (stops : List Stop) → length_of leg stops ≡ legs leg (places stops)
length_of-legs leg [] = refl
length_of-legs leg (x ∷ []) = refl
length_of-legs leg (x ∷ y ∷ rest) = ap (λ (n : ℕ). leg x.place y.place + n) (length_of-legs leg (y ∷ rest))

-- stops at the same places are as far from one another
pub same_length : (leg : ℕ → ℕ → ℕ) (xs ys : List Stop) → places xs ≡ places ys → length_of leg xs ≡ length_of leg ys
same_length leg xs ys e = length_of-legs leg xs ∙ ap (legs leg) e ∙ sym (length_of-legs leg ys)

places-append : (xs ys : List Stop) → places (xs ++ ys) ≡ places xs ++ places ys
places-append [] ys = refl
places-append (x ∷ xs) ys = ap (λ (zs : List ℕ). x.place ∷ zs) (places-append xs ys)

places-visits : (p : Problem) (xs ys : List Visit) (behind : List Stop) → places (visit_stops p (xs ++ ys) ++ behind) ≡ places (visit_stops p xs ++ (visit_stops p ys ++ behind))
places-visits p [] ys behind = refl
places-visits p (Client place ∷ xs) ys behind = ap (λ (zs : List ℕ). place ∷ zs) (places-visits p xs ys behind)
places-visits p (Reload depot ∷ xs) ys behind = ap (λ (zs : List ℕ). depot ∷ depot ∷ zs) (places-visits p xs ys behind)

-- two runs, one behind the other, have the places of both
pub places-runs : (p : Problem) (t : VehicleType) (x y : Run) → Follows x y → places (run_stops p t x ++ run_stops p t y) ≡ places (run_stops p t (followed_by x y))
places-runs p t x y h =
    let before = stops_before p t x.starts in
    let behind = stops_behind p t y.ends in
    let left : run_stops p t x ≡ before ++ visit_stops p x.visits =
    ap (λ (b : Bool). before ++ (visit_stops p x.visits ++ stops_behind p t b)) h.goes_on ∙ ap (λ (zs : List Stop). before ++ zs) (append-nil (visit_stops p x.visits)) in
    let right : run_stops p t y ≡ visit_stops p y.visits ++ behind =
    ap (λ (b : Bool). stops_before p t b ++ (visit_stops p y.visits ++ behind)) h.begun in
    (λ i. places (left i ++ right i))
    ∙ ap places (append_assoc before (visit_stops p x.visits) (visit_stops p y.visits ++ behind))
    ∙ places-append before (visit_stops p x.visits ++ (visit_stops p y.visits ++ behind))
    ∙ ap (λ (zs : List ℕ). places before ++ zs) (sym (places-visits p x.visits y.visits behind))
    ∙ sym (places-append before (visit_stops p (x.visits ++ y.visits) ++ behind))

-- no leg is longer than the longest
pub length-bound : (leg : ℕ → ℕ → ℕ) (stops : List Stop) → ((from to : ℕ) → leg from to ≤ largest_leg) → length_of leg stops ≤ length stops * largest_leg
length-bound leg [] short = omega arith
length-bound leg (x ∷ []) short = omega arith
length-bound leg (x ∷ y ∷ rest) short =
    let rest_bound = length-bound leg (y ∷ rest) short in
    let first = short x.place y.place in
    more (leg x.place y.place) (length_of leg (y ∷ rest)) (length (y ∷ rest)) first rest_bound
  where
    more : (a b n : ℕ) → a ≤ largest_leg → b ≤ n * largest_leg → a + b ≤ suc n * largest_leg
    more a b n h k = omega arith

-- the leg between two runs, where it is known where the one is left and the other is reached
pub joint-at : (p : Problem) (t : VehicleType) (leg : ℕ → ℕ → ℕ) (x y : Run) (last first : ℕ) → Leaves p t x last → Reaches p t y first →
    joint leg (run_stops p t x) (run_stops p t y) ≡ leg last first
joint-at p t leg x y last first leaves reaches = known (run_stops p t x) (run_stops p t y) leaves reaches
  where
    no_leg : (n : ℕ) → n ≡ 0 → n ≡ 1 → ⊥
    no_leg n h k = omega arith

    known : (xs ys : List Stop) → ((leg : ℕ → ℕ → ℕ) (y : Stop) (rest : List Stop) → joint leg xs (y ∷ rest) ≡ leg last y.place) →
        ((leg : ℕ → ℕ → ℕ) (x : Stop) (rest : List Stop) → joint leg (x ∷ rest) ys ≡ leg (last_place x rest) first) → joint leg xs ys ≡ leg last first
    known xs [] leaves reaches = absurd (no_leg 0 refl (reaches (λ from to. 1) (stop_at 0 0 (depot_at p 0).window 0) []))
    known xs (y ∷ ys) leaves reaches =
        let same : y.place ≡ first = reaches (λ from to. to) (stop_at 0 0 (depot_at p 0).window 0) [] in
        leaves leg y ys ∙ ap (leg last) same

-- where a run is left and reached
last_of_places : List ℕ → Option ℕ
last_of_places [] = None
last_of_places (x ∷ []) = Some x
last_of_places (x ∷ y ∷ rest) = last_of_places (y ∷ rest)

last_of-by_places : (xs : List Stop) → last_of xs ≡ last_of_places (places xs)
unfolding last_of_places
last_of-by_places [] = refl
last_of-by_places (x ∷ []) = refl
last_of-by_places (x ∷ y ∷ rest) = last_of-by_places (y ∷ rest)

leaves_by : (xs : List Stop) (place : ℕ) → last_of xs ≡ Some place → (leg : ℕ → ℕ → ℕ) (y : Stop) (ys : List Stop) → joint leg xs (y ∷ ys) ≡ leg place y.place
leaves_by [] place h leg y ys = absurd (nothing h)
  where
    nothing : None ≡ Some place → ⊥
    nothing h = cc
leaves_by (x ∷ xs) place h leg y ys = ap (λ (from : ℕ). leg from y.place) (same h)
  where
    same : Some (last_place x xs) ≡ Some place → last_place x xs ≡ place
    same h = cc

pub leaves-start : (p : Problem) (t : VehicleType) → Leaves p t start_alone t.start
leaves-start p t leg y ys = refl

pub leaves-alone : (p : Problem) (t : VehicleType) (visit : Visit) → Leaves p t (alone visit) (place_of visit)
leaves-alone p t (Client place) leg y ys = refl
leaves-alone p t (Reload depot) leg y ys = refl

last_of-alone : (p : Problem) (t : VehicleType) (visit : Visit) (xs : List Stop) → last_of (xs ++ run_stops p t (alone visit)) ≡ Some (place_of visit)
last_of-alone p t (Client place) xs = last_of-append xs _ []
last_of-alone p t (Reload depot) xs = last_of-append xs _ _

-- behind a visit more, a run is left from there
pub leaves-longer : (p : Problem) (t : VehicleType) (x : Run) (visit : Visit) → x.ends ≡ false → Leaves p t (followed_by x (alone visit)) (place_of visit)
leaves-longer p t x visit goes_on =
    leaves_by (run_stops p t (followed_by x (alone visit))) (place_of visit)
    (last_of-by_places (run_stops p t (followed_by x (alone visit)))
    ∙ ap last_of_places (sym (places-runs p t x (alone visit) (record { goes_on = goes_on; begun = refl })))
    ∙ sym (last_of-by_places (run_stops p t x ++ run_stops p t (alone visit)))
    ∙ last_of-alone p t visit (run_stops p t x))

pub reaches-end : (p : Problem) (t : VehicleType) → Reaches p t end_alone t.end
reaches-end p t leg x xs = refl

pub reaches-alone : (p : Problem) (t : VehicleType) (visit : Visit) → Reaches p t (alone visit) (place_of visit)
reaches-alone p t (Client place) leg x xs = refl
reaches-alone p t (Reload depot) leg x xs = refl

-- with a visit more before it, a run is reached there
pub reaches-longer : (p : Problem) (t : VehicleType) (visit : Visit) (y : Run) → Reaches p t (followed_by (alone visit) y) (place_of visit)
reaches-longer p t (Client place) y leg x xs = refl
reaches-longer p t (Reload depot) y leg x xs = refl

-- the start with all visits is left from the last one's place
last_place-visits : (p : Problem) (x : Stop) (visits : List Visit) → last_place x (visit_stops p visits ++ []) ≡ place_behind x.place visits
last_place-visits p x [] = refl
last_place-visits p x (Client place ∷ visits) = last_place-visits p (client_stop p place) visits
last_place-visits p x (Reload depot ∷ visits) = last_place-visits p (record (departure_stop p depot) { gate = trip_release p visits }) visits

pub leaves-all : (p : Problem) (t : VehicleType) (visits : List Visit) → Leaves p t (record { starts = true; visits = visits; ends = false }) (place_behind t.start visits)
leaves-all p t visits leg y ys = ap (λ (from : ℕ). leg from y.place) (last_place-visits p (start_stop p t) visits)

-- the place of the last visit
place_behind-last : (place : ℕ) (visits : List Visit) (last : Visit) → place_behind place (visits ++ last ∷ []) ≡ place_of last
place_behind-last place [] last = refl
place_behind-last place (visit ∷ visits) last = place_behind-last (place_of visit) visits last

pub place_behind-read : (place : ℕ) (visits : List Visit) (i : ℕ) (none : Visit) → i + 1 ≡ length visits → place_behind place visits ≡ place_of (get_or visits i none)
place_behind-read place visits i none h =
    let here : i < length visits = omega arith in
    let all : take (i + 1) visits ≡ visits = take_all (i + 1) visits (omega arith) in
    ap (place_behind place) (sym (sym (take_more visits i none here) ∙ all)) ∙ place_behind-last place (take i visits) (get_or visits i none)
