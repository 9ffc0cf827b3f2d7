-- Where the trips of a list lie in it.
use Rattle.std.specs.Prelude.{ℕ, ◌+◌, List, [], ◌∷◌, length, map, slice_range}
use Rattle.problem_data.specs.declared.visit.Visit.{Visit}
use Rattle.problem_data.specs.declared.visit.Visit.TheVariants.{Client}
use Rattle.routing_model.specs.Load.{trips}
use Rattle.trips.specs.declared.trip.Trip.{Trip}

-- the trips of a list; an empty list has none
abbrev pub trips_in : List Visit → List (List ℕ)
trips_in [] = []
trips_in (visit ∷ rest) = trips (visit ∷ rest)

-- their places, the first one's from here on: one reload lies between each two
abbrev pub spans_from : ℕ → List (List ℕ) → List Trip
spans_from first [] = []
spans_from first (clients ∷ rest) = record { first = first; end = first + length clients } ∷ spans_from (first + length clients + 1) rest

-- the visits of a trip
abbrev pub visits_of : List Visit → Trip → List Visit
visits_of visits trip = slice_range visits trip.first trip.end

-- the clients of each trip, as visits
abbrev pub trip_visits : List Visit → List (List Visit)
trip_visits visits = map (λ (clients : List ℕ). map (λ place. Client place) clients) (trips_in visits)
