-- How many stops and clients stretches have, and that their times are tame.
use Rattle.std.proofs.Common.{◌≡◌, ℕ, ◌+◌, ◌*◌, ◌≤◌, Bool, true, false, List, [], ◌∷◌, ◌++◌, length, max, refl, ◌∙◌, ap, sym, subst, arith, sum_by, flat_map, length-append}
use Rattle.std.specs.Prelude.{All}
use Rattle.std.proofs.lemmas.List.Elements.{All-append, All-cons, All-head, All-nil, All-tail}
use Rattle.std.proofs.lemmas.List.Sums.{sum_by-append, sum_by-cons}
use Rattle.problem_data.specs.declared.problem.Problem.{Problem}
use Rattle.problem_data.specs.declared.problem.VehicleType.{VehicleType}
use Rattle.problem_data.specs.declared.visit.Visit.{Visit}
use Rattle.problem_data.specs.declared.visit.Visit.TheVariants.{Client, Reload}
use Rattle.problem_data.specs.Limits.{largest, most_visits}
use Rattle.problem_data.specs.Valid.{IsValid, IsValidType}
use Rattle.routing_model.specs.Clock.{Stop, released_at}
use Rattle.routing_model.specs.Stops.{visit_stops}
use Rattle.trips.specs.Runs.{Run, Stretch, IsRunOf, arrival_stop, client_stop, departure_stop, end_stop, largest_release, run_stops, start_stop, stops_before, stops_behind, stretches, trip_stops}
use Rattle.trips.proofs.Drives.{IsTame, most_stops}
use Rattle.trips.proofs.Quantities.{valid_client_at, valid_depot_at}
use Rattle.trips.proofs.Stretches.{parts, parts-client}

-- its times are tame
abbrev pub IsModest : Stretch → Type 0
IsModest stretch = All IsTame stretch.stops

-- how many stops some stretches have
abbrev pub stop_count : List Stretch → ℕ
stop_count xs = sum_by (λ (x : Stretch). length x.stops) xs

-- how many clients they have
abbrev pub client_count : List Stretch → ℕ
client_count xs = sum_by (λ (x : Stretch). length x.clients) xs

-- modest stretches that have few stops and few clients
pub record IsFew (xs : List Stretch) : Type 0 where
  pub modest : All IsModest xs
  pub few : stop_count xs ≤ most_stops
  pub few_clients : client_count xs ≤ most_visits

tame-client : (p : Problem) (place : ℕ) → IsValid p → IsTame (client_stop p place)
tame-client p place valid = let c = valid_client_at p place valid in
    record { gate = omega arith; early = omega (arith, c.window.ordered, c.window.late); late = c.window.late; service = c.service }

tame-arrival : (p : Problem) (depot : ℕ) → IsValid p → IsTame (arrival_stop p depot)
tame-arrival p depot valid = let d = valid_depot_at p depot valid in
    record { gate = omega arith; early = omega (arith, d.window.ordered, d.window.late); late = d.window.late; service = omega arith }

tame-departure : (p : Problem) (depot : ℕ) → IsValid p → IsTame (departure_stop p depot)
tame-departure p depot valid = let d = valid_depot_at p depot valid in
    record { gate = omega arith; early = omega (arith, d.window.ordered, d.window.late); late = d.window.late; service = d.service }

tame-start : (p : Problem) (t : VehicleType) → IsValid p → IsValidType p t → IsTame (start_stop p t)
tame-start p t valid allowed = let d = valid_depot_at p t.start valid in record {
  gate = omega arith;
  early = omega (arith, d.window.ordered, d.window.late, allowed.shift.ordered, allowed.shift.late);
  late = omega (arith, d.window.late);
  service = d.service;
}

tame-end : (p : Problem) (t : VehicleType) → IsValid p → IsValidType p t → IsTame (end_stop p t)
tame-end p t valid allowed = let d = valid_depot_at p t.end valid in record {
  gate = omega arith;
  early = omega (arith, d.window.ordered, d.window.late, allowed.shift.ordered, allowed.shift.late);
  late = omega (arith, d.window.late);
  service = omega arith;
}

tame-before : (p : Problem) (t : VehicleType) (starts : Bool) → IsValid p → IsValidType p t → All IsTame (stops_before p t starts)
tame-before p t true valid allowed = All-cons IsTame (start_stop p t) [] (tame-start p t valid allowed) (All-nil IsTame)
tame-before p t false valid allowed = All-nil IsTame

tame-behind : (p : Problem) (t : VehicleType) (ends : Bool) → IsValid p → IsValidType p t → All IsTame (stops_behind p t ends)
tame-behind p t true valid allowed = All-cons IsTame (end_stop p t) [] (tame-end p t valid allowed) (All-nil IsTame)
tame-behind p t false valid allowed = All-nil IsTame

-- the stretches of visits are modest
modest-parts : (p : Problem) (before : List Stop) (clients : List ℕ) (visits : List Visit) (behind : List Stop) → IsValid p → All IsTame before → All IsTame behind →
    All IsModest (parts p before clients visits behind)
modest-parts p before clients [] behind valid tame last =
    All-cons IsModest (record { stops = before ++ behind; clients = clients ++ [] }) [] (All-append IsTame before behind tame last) (All-nil IsModest)
modest-parts p before clients (Client place ∷ visits) behind valid tame last =
    subst (All IsModest) (sym (parts-client p before clients place visits behind))
    (modest-parts p (before ++ client_stop p place ∷ []) (clients ++ place ∷ []) visits behind valid
    (All-append IsTame before (client_stop p place ∷ []) tame (All-cons IsTame (client_stop p place) [] (tame-client p place valid) (All-nil IsTame)))
    last)
modest-parts p before clients (Reload depot ∷ visits) behind valid tame last =
    All-cons IsModest (record { stops = before ++ arrival_stop p depot ∷ []; clients = clients ++ [] }) (parts p (departure_stop p depot ∷ []) [] visits behind)
    (All-append IsTame before (arrival_stop p depot ∷ []) tame (All-cons IsTame (arrival_stop p depot) [] (tame-arrival p depot valid) (All-nil IsTame)))
    (modest-parts p (departure_stop p depot ∷ []) [] visits behind valid
    (All-cons IsTame (departure_stop p depot) [] (tame-departure p depot valid) (All-nil IsTame)) last)

-- the stretches have the stops of the run
count-parts : (p : Problem) (before : List Stop) (clients : List ℕ) (visits : List Visit) (behind : List Stop) →
    stop_count (parts p before clients visits behind) ≡ length before + (length (visit_stops p visits) + length behind)
count-parts p before clients [] behind =
    sum_by-cons (λ (x : Stretch). length x.stops) (record { stops = before ++ behind; clients = clients ++ [] }) []
    ∙ omega (arith, length-append before behind)
count-parts p before clients (Client place ∷ visits) behind =
    let rest = count-parts p (before ++ client_stop p place ∷ []) (clients ++ place ∷ []) visits behind in
    ap stop_count (parts-client p before clients place visits behind) ∙ rest ∙ omega (arith, length-append before (client_stop p place ∷ []))
count-parts p before clients (Reload depot ∷ visits) behind =
    let rest = count-parts p (departure_stop p depot ∷ []) [] visits behind in
    sum_by-cons (λ (x : Stretch). length x.stops) (record { stops = before ++ arrival_stop p depot ∷ []; clients = clients ++ [] }) (parts p (departure_stop p depot ∷ []) [] visits behind)
    ∙ omega (arith, length-append before (arrival_stop p depot ∷ []))

count-run : (p : Problem) (t : VehicleType) (run : Run) → stop_count (stretches p t run) ≡ length (run_stops p t run)
count-run p t run =
    let before = stops_before p t run.starts in
    let behind = stops_behind p t run.ends in
    count-parts p before [] run.visits behind
    ∙ sym (length-append before (visit_stops p run.visits ++ behind) ∙ ap (λ (n : ℕ). length before + n) (length-append (visit_stops p run.visits) behind))

-- they have no more clients than the run has visits
clients-parts : (p : Problem) (before : List Stop) (clients : List ℕ) (visits : List Visit) (behind : List Stop) →
    client_count (parts p before clients visits behind) ≤ length clients + length visits
clients-parts p before clients [] behind =
    let e = sum_by-cons (λ (x : Stretch). length x.clients) (record { stops = before ++ behind; clients = clients ++ [] }) [] in
    omega (arith, length-append clients [])
clients-parts p before clients (Client place ∷ visits) behind =
    let rest = clients-parts p (before ++ client_stop p place ∷ []) (clients ++ place ∷ []) visits behind in
    let same = ap client_count (parts-client p before clients place visits behind) in
    omega (arith, length-append clients (place ∷ []))
clients-parts p before clients (Reload depot ∷ visits) behind =
    let rest = clients-parts p (departure_stop p depot ∷ []) [] visits behind in
    let e = sum_by-cons (λ (x : Stretch). length x.clients) (record { stops = before ++ arrival_stop p depot ∷ []; clients = clients ++ [] }) (parts p (departure_stop p depot ∷ []) [] visits behind) in
    omega (arith, length-append clients [])

-- a visit has at most two stops
length-visit_stops : (p : Problem) (visits : List Visit) → length (visit_stops p visits) ≤ 2 * length visits
length-visit_stops p [] = omega arith
length-visit_stops p (Client place ∷ visits) = let rest = length-visit_stops p visits in omega arith
length-visit_stops p (Reload depot ∷ visits) = let rest = length-visit_stops p visits in omega arith

-- a run has at most two stops more than those of its visits
pub length-run : (p : Problem) (t : VehicleType) (run : Run) → length (run_stops p t run) ≤ 2 * length run.visits + 2
length-run p t run =
    let before = stops_before p t run.starts in
    let behind = stops_behind p t run.ends in
    let visits = length-visit_stops p run.visits in
    let a : length before ≤ 1 = one_before run.starts in
    let b : length behind ≤ 1 = one_behind run.ends in
    omega (arith, length-append before (visit_stops p run.visits ++ behind), length-append (visit_stops p run.visits) behind)
  where
    one_before : (starts : Bool) → length (stops_before p t starts) ≤ 1
    one_before true = omega arith
    one_before false = omega arith

    one_behind : (ends : Bool) → length (stops_behind p t ends) ≤ 1
    one_behind true = omega arith
    one_behind false = omega arith

-- the stretches of a run of a valid problem are modest
pub modest-run : (p : Problem) (t : VehicleType) (run : Run) → IsRunOf p t run → All IsModest (stretches p t run)
modest-run p t run h =
    modest-parts p (stops_before p t run.starts) [] run.visits (stops_behind p t run.ends) h.valid
    (tame-before p t run.starts h.valid h.allowed) (tame-behind p t run.ends h.valid h.allowed)

-- and have no more clients than it has visits
pub clients-run : (p : Problem) (t : VehicleType) (run : Run) → client_count (stretches p t run) ≤ length run.visits
clients-run p t run =
    let most : client_count (stretches p t run) ≤ 0 + length run.visits = clients-parts p (stops_before p t run.starts) [] run.visits (stops_behind p t run.ends) in
    omega arith

-- a run of a valid problem with few visits
pub few-run : (p : Problem) (t : VehicleType) (run : Run) → IsRunOf p t run → length run.visits ≤ most_visits → IsFew (stretches p t run)
few-run p t run h few = record {
  modest = modest-run p t run h;
  few = let e = count-run p t run in let l = length-run p t run in omega arith;
  few_clients = let c = clients-run p t run in omega arith;
}

-- some of these stretches
pub few-tail : (x : Stretch) (xs : List Stretch) → IsFew (x ∷ xs) → IsFew xs
few-tail x xs h = record {
  modest = All-tail IsModest x xs h.modest;
  few = let e = sum_by-cons (λ (x : Stretch). length x.stops) x xs in omega (arith, h.few);
  few_clients = let e = sum_by-cons (λ (x : Stretch). length x.clients) x xs in omega (arith, h.few_clients);
}

pub few-front : (xs ys : List Stretch) → IsFew (xs ++ ys) → IsFew xs
few-front [] ys h = record { modest = All-nil IsModest; few = omega arith; few_clients = omega arith }
few-front (x ∷ xs) ys h = record {
  modest = All-cons IsModest x xs (All-head IsModest x (xs ++ ys) h.modest) (few-front xs ys (few-tail x (xs ++ ys) h)).modest;
  few = let e = sum_by-append (λ (x : Stretch). length x.stops) (x ∷ xs) ys in omega (arith, h.few);
  few_clients = let e = sum_by-append (λ (x : Stretch). length x.clients) (x ∷ xs) ys in omega (arith, h.few_clients);
}

pub few-back : (xs ys : List Stretch) → IsFew (xs ++ ys) → IsFew ys
few-back [] ys h = h
few-back (x ∷ xs) ys h = few-back xs ys (few-tail x (xs ++ ys) h)

-- releases are tame, too
release-tame : (p : Problem) (clients : List ℕ) → IsValid p → largest_release p clients ≤ largest
release-tame p [] valid = omega arith
release-tame p (place ∷ clients) valid = let c = valid_client_at p place valid in let rest = release-tame p clients valid in omega (arith, c.release)

pub released-tame : (p : Problem) (clients : List ℕ) (stops : List Stop) → IsValid p → All IsTame stops → All IsTame (released_at (largest_release p clients) stops)
released-tame p clients [] valid tame = tame
released-tame p clients (x ∷ xs) valid tame =
    let moment = largest_release p clients in
    let first = All-head IsTame x xs tame in
    let release : moment ≤ largest = release-tame p clients valid in
    All-cons IsTame (record x { gate = max x.gate moment }) xs
    (record { gate = omega (arith, first.gate); early = first.early; late = first.late; service = first.service })
    (All-tail IsTame x xs tame)

length-released : (moment : ℕ) (stops : List Stop) → length (released_at moment stops) ≡ length stops
length-released moment [] = refl
length-released moment (x ∷ xs) = refl

-- the stops of modest trips are tame, and as many
pub trips-tame : (p : Problem) (xs : List Stretch) → IsValid p → All IsModest xs → All IsTame (flat_map (trip_stops p) xs)
trips-tame p [] valid modest = All-nil IsTame
trips-tame p (x ∷ xs) valid modest =
    All-append IsTame (trip_stops p x) (flat_map (trip_stops p) xs)
    (released-tame p x.clients x.stops valid (All-head IsModest x xs modest))
    (trips-tame p xs valid (All-tail IsModest x xs modest))

pub trips-count : (p : Problem) (xs : List Stretch) → length (flat_map (trip_stops p) xs) ≡ stop_count xs
trips-count p [] = refl
trips-count p (x ∷ xs) =
    let rest = trips-count p xs in
    let first = length-released (largest_release p x.clients) x.stops in
    let both = length-append (trip_stops p x) (flat_map (trip_stops p) xs) in
    let sums = sum_by-cons (λ (x : Stretch). length x.stops) x xs in
    omega arith
