-- Runs of a vehicle's stops, and the stretches into which reloads cut them.
use Rattle.std.specs.Prelude.{◌≡◌, ℕ, max, Bool, true, false, List, [], ◌∷◌, ◌++◌, All, IsTrue, ◌-◌}
use Rattle.problem_data.specs.declared.problem.Problem.{Problem}
use Rattle.problem_data.specs.declared.problem.VehicleType.{VehicleType}
use Rattle.problem_data.specs.declared.visit.Visit.{Visit}
use Rattle.problem_data.specs.declared.visit.Visit.TheVariants.{Client, Reload}
use Rattle.problem_data.specs.Places.{depot_at, client_at}
use Rattle.problem_data.specs.Valid.{IsValid, IsValidType}
use Rattle.routing_model.specs.Clock.{Stop, released_at}
use Rattle.routing_model.specs.Lawful.{names_place}
use Rattle.routing_model.specs.Load.{first_trip, trip_load}
use Rattle.routing_model.specs.Stops.{met, stop_at, visit_stops}

-- some visits of a vehicle in order, maybe behind its start, and maybe before its end
pub record Run : Type 0 where
  pub starts : Bool
  pub visits : List Visit
  pub ends : Bool

-- all of them, from the start to the end
abbrev pub whole : List Visit → Run
whole visits = record { starts = true; visits = visits; ends = true }

-- two runs, one after the other
abbrev pub followed_by : Run → Run → Run
followed_by left right = record { starts = left.starts; visits = left.visits ++ right.visits; ends = right.ends }

-- the first run doesn't end, and the second one doesn't start
pub record Follows (left right : Run) : Type 0 where
  pub goes_on : left.ends ≡ false
  pub begun : right.starts ≡ false

-- a stop at a client
abbrev pub client_stop : Problem → ℕ → Stop
client_stop p place = stop_at place 0 (client_at p place).window (client_at p place).service

-- the arrival at a reload's depot
abbrev pub arrival_stop : Problem → ℕ → Stop
arrival_stop p depot = stop_at depot 0 (depot_at p depot).window 0

-- the departure from there, before its gate is known
abbrev pub departure_stop : Problem → ℕ → Stop
departure_stop p depot = stop_at depot 0 (depot_at p depot).window (depot_at p depot).service

-- the start, before its gate is known
abbrev pub start_stop : Problem → VehicleType → Stop
start_stop p t = stop_at t.start 0 (met (depot_at p t.start).window t.shift) (depot_at p t.start).service

-- the end
abbrev pub end_stop : Problem → VehicleType → Stop
end_stop p t = stop_at t.end 0 (met (depot_at p t.end).window t.shift) 0

-- the start, where the run has it
abbrev pub stops_before : Problem → VehicleType → Bool → List Stop
stops_before p t true = start_stop p t ∷ []
stops_before p t false = []

-- the end, where the run has it
abbrev pub stops_behind : Problem → VehicleType → Bool → List Stop
stops_behind p t true = end_stop p t ∷ []
stops_behind p t false = []

-- The stops of a run. The gate of its first departure is left out, since its trip may go on behind the run; those of its reloads are
-- the releases of what the run knows of their trips.
abbrev pub run_stops : Problem → VehicleType → Run → List Stop
run_stops p t run = stops_before p t run.starts ++ (visit_stops p run.visits ++ stops_behind p t run.ends)

-- What lies between two reloads, before the first or behind the last: from a departure or the run's beginning to an arrival or the
-- run's end. No stop has its gate yet.
pub record Stretch : Type 0 where
  pub stops : List Stop
  pub clients : List ℕ

-- the stops up to the first arrival; where there is none, all of them and those behind
abbrev pub first_stops : Problem → List Visit → List Stop → List Stop
first_stops p [] behind = behind
first_stops p (Client place ∷ rest) behind = client_stop p place ∷ first_stops p rest behind
first_stops p (Reload depot ∷ rest) behind = arrival_stop p depot ∷ []

-- the stretches from each departure on
abbrev pub later_stretches : Problem → List Visit → List Stop → List Stretch
later_stretches p [] behind = []
later_stretches p (Client place ∷ rest) behind = later_stretches p rest behind
later_stretches p (Reload depot ∷ rest) behind =
    record { stops = departure_stop p depot ∷ first_stops p rest behind; clients = first_trip rest } ∷ later_stretches p rest behind

-- the stretches of a run
abbrev pub stretches : Problem → VehicleType → Run → List Stretch
stretches p t run = let behind = stops_behind p t run.ends in
    record { stops = stops_before p t run.starts ++ first_stops p run.visits behind; clients = first_trip run.visits }
    ∷ later_stretches p run.visits behind

-- the largest release of some clients
abbrev pub largest_release : Problem → List ℕ → ℕ
largest_release p [] = 0
largest_release p (place ∷ rest) = max (client_at p place).release (largest_release p rest)

-- the stops of a trip: the departure isn't left before the largest release of its clients
abbrev pub trip_stops : Problem → Stretch → List Stop
trip_stops p stretch = released_at (largest_release p stretch.clients) stretch.stops

-- what a trip's load exceeds the capacity by
abbrev pub trip_excess : Problem → VehicleType → Stretch → ℕ
trip_excess p t stretch = trip_load p stretch.clients - t.capacity

-- a run of a valid problem, for one of the types that it could have: its visits name places that are there
pub record IsRunOf (p : Problem) (t : VehicleType) (run : Run) : Type 0 where
  pub valid : IsValid p
  pub allowed : IsValidType p t
  pub named : All (λ visit. IsTrue (names_place p visit)) run.visits
