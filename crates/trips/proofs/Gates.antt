-- Whole lists: their trips' stops with all gates are the stops of the vehicle, and their excesses its excess load.
use Rattle.std.proofs.Common.{◌≡◌, ℕ, ◌+◌, ◌-◌, max, List, [], ◌∷◌, ◌++◌, refl, ◌∙◌, ap, sym, append_assoc, sum_by, flat_map, arith}
use Rattle.std.proofs.lemmas.List.{append-nil}
use Rattle.std.proofs.lemmas.List.Sums.{sum_by-cons}
use Rattle.problem_data.specs.declared.problem.Problem.{Problem}
use Rattle.problem_data.specs.declared.problem.VehicleType.{VehicleType}
use Rattle.problem_data.specs.declared.visit.Visit.{Visit}
use Rattle.problem_data.specs.declared.visit.Visit.TheVariants.{Client, Reload}
use Rattle.problem_data.specs.Places.{client_at}
use Rattle.routing_model.specs.Clock.{Stop}
use Rattle.routing_model.specs.Load.{excess_load, first_trip, later_trips, trip_load}
use Rattle.routing_model.specs.Stops.{stops, trip_release, visit_stops}
use Rattle.trips.specs.Runs.{Run, Stretch, arrival_stop, client_stop, departure_stop, end_stop, first_stops, largest_release, later_stretches, start_stop, stops_before, stops_behind, stretches, trip_excess, trip_stops, whole}
use Rattle.trips.proofs.Stretches.{parts, parts-client}

-- the release of the trip that begins here is the largest of its clients
pub trip_release-largest : (p : Problem) (visits : List Visit) → trip_release p visits ≡ largest_release p (first_trip visits)
trip_release-largest p [] = refl
trip_release-largest p (Client place ∷ visits) = ap (λ (n : ℕ). max (client_at p place).release n) (trip_release-largest p visits)
trip_release-largest p (Reload depot ∷ visits) = refl

-- the departure, held back until the largest release of these clients
abbrev held : Problem → Stop → List ℕ → Stop
held p departure clients = record departure { gate = max departure.gate (largest_release p clients) }

gate-held : (p : Problem) (visits : List Visit) → max 0 (largest_release p (first_trip visits)) ≡ trip_release p visits
gate-held p visits = let e = trip_release-largest p visits in omega arith

-- the stops of the trips, each with its gate
gates : (p : Problem) (departure : Stop) (before : List Stop) (clients : List ℕ) (visits : List Visit) (behind : List Stop) →
    flat_map (trip_stops p) (parts p (departure ∷ before) clients visits behind)
    ≡ held p departure (clients ++ first_trip visits) ∷ (before ++ (visit_stops p visits ++ behind))
gates p departure before clients [] behind = append-nil (held p departure (clients ++ []) ∷ (before ++ behind))
gates p departure before clients (Client place ∷ visits) behind =
    ap (λ (zs : List Stretch). flat_map (trip_stops p) zs) (parts-client p (departure ∷ before) clients place visits behind)
    ∙ gates p departure (before ++ client_stop p place ∷ []) (clients ++ place ∷ []) visits behind
    ∙ (λ i. held p departure (append_assoc clients (place ∷ []) (first_trip visits) i) ∷ append_assoc before (client_stop p place ∷ []) (visit_stops p visits ++ behind) i)
gates p departure before clients (Reload depot ∷ visits) behind =
    let first : List Stop = held p departure (clients ++ []) ∷ (before ++ arrival_stop p depot ∷ []) in
    ap (λ (zs : List Stop). first ++ zs) (gates p (departure_stop p depot) [] [] visits behind)
    ∙ (λ i. first ++ record (departure_stop p depot) { gate = gate-held p visits i } ∷ (visit_stops p visits ++ behind))
    ∙ (λ i. held p departure (clients ++ []) ∷ append_assoc before (arrival_stop p depot ∷ [])
    (record (departure_stop p depot) { gate = trip_release p visits } ∷ (visit_stops p visits ++ behind)) i)

-- a whole list has all its stops, each with its gate
pub stops-whole : (p : Problem) (t : VehicleType) (visits : List Visit) → flat_map (trip_stops p) (stretches p t (whole visits)) ≡ stops p t visits
stops-whole p t visits =
    gates p (start_stop p t) [] [] visits (end_stop p t ∷ [])
    ∙ (λ i. record (start_stop p t) { gate = gate-held p visits i } ∷ (visit_stops p visits ++ end_stop p t ∷ []))

-- what a load exceeds the capacity by
abbrev over : Problem → VehicleType → List ℕ → ℕ
over p t clients = trip_load p clients - t.capacity

-- the excesses of the later trips
later_excess : (p : Problem) (t : VehicleType) (visits : List Visit) (behind : List Stop) →
    sum_by (trip_excess p t) (later_stretches p visits behind) ≡ sum_by (over p t) (later_trips visits)
later_excess p t [] behind = refl
later_excess p t (Client place ∷ visits) behind = later_excess p t visits behind
later_excess p t (Reload depot ∷ visits) behind =
    let trip : Stretch = record { stops = departure_stop p depot ∷ first_stops p visits behind; clients = first_trip visits } in
    sum_by-cons (trip_excess p t) trip (later_stretches p visits behind)
    ∙ ap (λ (n : ℕ). over p t (first_trip visits) + n) (later_excess p t visits behind)
    ∙ sym (sum_by-cons (over p t) (first_trip visits) (later_trips visits))

-- the excesses of a run's trips are its visits' excess load
pub excess-run : (p : Problem) (t : VehicleType) (run : Run) → sum_by (trip_excess p t) (stretches p t run) ≡ excess_load p t run.visits
excess-run p t run =
    let behind = stops_behind p t run.ends in
    let trip : Stretch = record { stops = stops_before p t run.starts ++ first_stops p run.visits behind; clients = first_trip run.visits } in
    sum_by-cons (trip_excess p t) trip (later_stretches p run.visits behind)
    ∙ ap (λ (n : ℕ). over p t (first_trip run.visits) + n) (later_excess p t run.visits behind)
    ∙ sym (sum_by-cons (over p t) (first_trip run.visits) (later_trips run.visits))
