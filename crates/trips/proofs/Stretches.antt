-- The stretches of two runs, one behind the other.
use Rattle.std.proofs.Common.{◌≡◌, ℕ, List, [], ◌∷◌, ◌++◌, refl, ◌∙◌, ap, sym, append_assoc, Bool, false, Option, Some, None}
use Rattle.std.proofs.lemmas.List.{append-nil}
use Rattle.problem_data.specs.declared.problem.Problem.{Problem}
use Rattle.problem_data.specs.declared.problem.VehicleType.{VehicleType}
use Rattle.problem_data.specs.declared.visit.Visit.{Visit}
use Rattle.problem_data.specs.declared.visit.Visit.TheVariants.{Client, Reload}
use Rattle.routing_model.specs.Clock.{Stop, joint}
use Rattle.routing_model.specs.Load.{first_trip}
use Rattle.routing_model.specs.Stops.{trip_release, visit_stops}
use Rattle.trips.specs.Runs.{Run, Stretch, Follows, arrival_stop, client_stop, departure_stop, first_stops, followed_by, later_stretches, run_stops, stops_before, stops_behind, stretches}
use Rattle.trips.proofs.Places.{first_of, last_of, last_of-append, last_place-same, same_joint}

-- two stretches as one
abbrev pub joined : Stretch → Stretch → Stretch
joined left right = record { stops = left.stops ++ right.stops; clients = left.clients ++ right.clients }

-- the stretches of some visits, where the first one has more stops and clients before them
abbrev pub parts : Problem → List Stop → List ℕ → List Visit → List Stop → List Stretch
parts p before clients visits behind =
    record { stops = before ++ first_stops p visits behind; clients = clients ++ first_trip visits } ∷ later_stretches p visits behind

-- the last of the left becomes one with the first of the right
abbrev pub glued : List Stretch → List Stretch → List Stretch
glued [] ys = ys
glued (x ∷ []) [] = x ∷ []
glued (x ∷ []) (y ∷ ys) = joined x y ∷ ys
glued (x ∷ next ∷ xs) ys = x ∷ glued (next ∷ xs) ys

-- a client moves to what stands before
pub parts-client : (p : Problem) (before : List Stop) (clients : List ℕ) (place : ℕ) (visits : List Visit) (behind : List Stop) →
    parts p before clients (Client place ∷ visits) behind ≡ parts p (before ++ client_stop p place ∷ []) (clients ++ place ∷ []) visits behind
parts-client p before clients place visits behind =
    let s = sym (append_assoc before (client_stop p place ∷ []) (first_stops p visits behind)) in
    let c = sym (append_assoc clients (place ∷ []) (first_trip visits)) in
    λ i. record { stops = s i; clients = c i } ∷ later_stretches p visits behind

pub parts-append : (p : Problem) (before : List Stop) (clients : List ℕ) (xs ys : List Visit) (behind : List Stop) →
    parts p before clients (xs ++ ys) behind ≡ glued (parts p before clients xs []) (parts p [] [] ys behind)
parts-append p before clients [] ys behind =
    let s = ap (λ (zs : List Stop). zs ++ first_stops p ys behind) (sym (append-nil before)) in
    let c = ap (λ (zs : List ℕ). zs ++ first_trip ys) (sym (append-nil clients)) in
    λ i. record { stops = s i; clients = c i } ∷ later_stretches p ys behind
parts-append p before clients (Client place ∷ xs) ys behind =
    parts-client p before clients place (xs ++ ys) behind
    ∙ parts-append p (before ++ client_stop p place ∷ []) (clients ++ place ∷ []) xs ys behind
    ∙ ap (λ (zs : List Stretch). glued zs (parts p [] [] ys behind)) (sym (parts-client p before clients place xs []))
parts-append p before clients (Reload depot ∷ xs) ys behind =
    ap (λ (zs : List Stretch). record { stops = before ++ arrival_stop p depot ∷ []; clients = clients ++ [] } ∷ zs)
    (parts-append p (departure_stop p depot ∷ []) [] xs ys behind)

-- the stretches of two runs are theirs, glued
pub stretches-followed_by : (p : Problem) (t : VehicleType) (x y : Run) → Follows x y →
    stretches p t (followed_by x y) ≡ glued (stretches p t x) (stretches p t y)
stretches-followed_by p t x y h =
    let ends = ap (λ (b : Bool). parts p (stops_before p t x.starts) [] x.visits (stops_behind p t b)) (sym h.goes_on) in
    let starts = ap (λ (b : Bool). parts p (stops_before p t b) [] y.visits (stops_behind p t y.ends)) (sym h.begun) in
    parts-append p (stops_before p t x.starts) [] x.visits y.visits (stops_behind p t y.ends)
    ∙ (λ i. glued (ends i) (starts i))

-- glued where the last of the left is known
glued-last : (xs : List Stretch) (last first : Stretch) (ys : List Stretch) → glued (xs ++ last ∷ []) (first ∷ ys) ≡ xs ++ joined last first ∷ ys
glued-last [] last first ys = refl
glued-last (x ∷ []) last first ys = refl
glued-last (x ∷ next ∷ xs) last first ys = ap (λ (zs : List Stretch). x ∷ zs) (glued-last (next ∷ xs) last first ys)

-- where the last stretch of one run and the first one of the next are known, they become one
pub stretches-glued : (p : Problem) (t : VehicleType) (x y : Run) (front : List Stretch) (last first : Stretch) (back : List Stretch) → Follows x y →
    stretches p t x ≡ front ++ last ∷ [] → stretches p t y ≡ first ∷ back → stretches p t (followed_by x y) ≡ front ++ joined last first ∷ back
stretches-glued p t x y front last first back h left right =
    stretches-followed_by p t x y h ∙ (λ i. glued (left i) (right i)) ∙ glued-last front last first back

-- the place of the last stop of the last stretch
abbrev last_of_stretches : List Stretch → Option ℕ
last_of_stretches [] = None
last_of_stretches (x ∷ []) = last_of x.stops
last_of_stretches (x ∷ next ∷ xs) = last_of_stretches (next ∷ xs)

last_of_stretches-last : (xs : List Stretch) (last : Stretch) → last_of_stretches (xs ++ last ∷ []) ≡ last_of last.stops
last_of_stretches-last [] last = refl
last_of_stretches-last (x ∷ []) last = refl
last_of_stretches-last (x ∷ next ∷ xs) last = last_of_stretches-last (next ∷ xs) last

last_of-parts : (p : Problem) (before : List Stop) (clients : List ℕ) (xs : List Visit) →
    last_of_stretches (parts p before clients xs []) ≡ last_of (before ++ visit_stops p xs)
last_of-parts p before clients [] = refl
last_of-parts p before clients (Client place ∷ xs) =
    ap last_of_stretches (parts-client p before clients place xs [])
    ∙ last_of-parts p (before ++ client_stop p place ∷ []) (clients ++ place ∷ []) xs
    ∙ ap last_of (append_assoc before (client_stop p place ∷ []) (visit_stops p xs))
last_of-parts p before clients (Reload depot ∷ xs) =
    let gated : Stop = record (departure_stop p depot) { gate = trip_release p xs } in
    last_of-parts p (departure_stop p depot ∷ []) [] xs
    ∙ ap (λ (place : ℕ). Some place) (last_place-same (departure_stop p depot) gated (visit_stops p xs) refl)
    ∙ sym (last_of-append before (arrival_stop p depot) (gated ∷ visit_stops p xs))

last_of-run : (p : Problem) (t : VehicleType) (x : Run) (front : List Stretch) (last : Stretch) → x.ends ≡ false → stretches p t x ≡ front ++ last ∷ [] →
    last_of (run_stops p t x) ≡ last_of last.stops
last_of-run p t x front last goes_on cut =
    let before = stops_before p t x.starts in
    let here : last_of (run_stops p t x) ≡ last_of (before ++ (visit_stops p x.visits ++ [])) =
    ap (λ (b : Bool). last_of (before ++ (visit_stops p x.visits ++ stops_behind p t b))) goes_on in
    let same : stretches p t x ≡ parts p before [] x.visits [] = ap (λ (b : Bool). parts p before [] x.visits (stops_behind p t b)) goes_on in
    here
    ∙ ap (λ (zs : List Stop). last_of (before ++ zs)) (append-nil (visit_stops p x.visits))
    ∙ sym (last_of-parts p before [] x.visits)
    ∙ ap last_of_stretches (sym same)
    ∙ ap last_of_stretches cut
    ∙ last_of_stretches-last front last

first_of-visits : (p : Problem) (ys : List Visit) (behind : List Stop) → first_of (visit_stops p ys ++ behind) ≡ first_of (first_stops p ys behind)
first_of-visits p [] behind = refl
first_of-visits p (Client place ∷ ys) behind = refl
first_of-visits p (Reload depot ∷ ys) behind = refl

-- the place of the first stop of the first stretch
abbrev pub first_of_stretches : List Stretch → Option ℕ
first_of_stretches [] = None
first_of_stretches (x ∷ xs) = first_of x.stops

first_of-run : (p : Problem) (t : VehicleType) (y : Run) (first : Stretch) (back : List Stretch) → y.starts ≡ false → stretches p t y ≡ first ∷ back →
    first_of (run_stops p t y) ≡ first_of first.stops
first_of-run p t y first back begun cut =
    let behind = stops_behind p t y.ends in
    ap (λ (b : Bool). first_of (stops_before p t b ++ (visit_stops p y.visits ++ behind))) begun
    ∙ first_of-visits p y.visits behind
    ∙ ap (λ (b : Bool). first_of (stops_before p t b ++ first_stops p y.visits behind)) (sym begun)
    ∙ ap first_of_stretches cut

-- the leg between two runs is the one between the stretches that become one
pub joint-runs : (p : Problem) (t : VehicleType) (leg : ℕ → ℕ → ℕ) (x y : Run) (front : List Stretch) (last first : Stretch) (back : List Stretch) → Follows x y →
    stretches p t x ≡ front ++ last ∷ [] → stretches p t y ≡ first ∷ back → joint leg (run_stops p t x) (run_stops p t y) ≡ joint leg last.stops first.stops
joint-runs p t leg x y front last first back h left right =
    same_joint leg (run_stops p t x) last.stops (run_stops p t y) first.stops
    (last_of-run p t x front last h.goes_on left) (first_of-run p t y first back h.begun right)
