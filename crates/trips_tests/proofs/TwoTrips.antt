-- Runs of the list `1 |0 2` of the problem of two trips.
use Rattle.std.proofs.Common.{◌≡◌, ℕ, ◌≤◌, true, false, List, [], ◌∷◌, length, refl, subst, lit≤}
use Rattle.std.specs.Prelude.{All, IsTrue, pos}
use Rattle.std.proofs.lemmas.List.Elements.{All-from_recursion}
use Rattle.problem_data.specs.declared.visit.Visit.{Visit}
use Rattle.problem_data.specs.declared.visit.Visit.TheVariants.{Client, Reload}
use Rattle.problem_data.specs.Limits.{most_visits}
use Rattle.problem_data.specs.Places.{leg_duration}
use Rattle.routing_model.specs.Clock.{joint}
use Rattle.routing_model.specs.Lawful.{names_place}
use Rattle.routing_model.specs.Listed.{IsListed}
use Rattle.sample_problem.specs.TwoTrips.{one_vehicle, two_trips}
use Rattle.sample_problem.proofs.TwoTripsAreValid.{two_trips-valid, vehicle-valid}
use Rattle.trips.specs.declared.trip_segment.TripSegment.{TripSegment}
use Rattle.trips.specs.Conditions.{CanMerge, IsSoundTrips}
use Rattle.trips.specs.Runs.{Run, Follows, IsRunOf, followed_by, run_stops}
use Rattle.trips.specs.Standing.{StandsForRun}
use Rattle.trips.proofs.InRange.{runs-can}

-- runs of this problem
abbrev pub run : List Visit → Run
run visits = record { starts = true; visits = visits; ends = false }

abbrev pub lone : Visit → Run
lone visit = record { starts = false; visits = visit ∷ []; ends = false }

-- a run of it with few visits can be merged with the next
pub merges : (x y : Run) (left right : TripSegment) → Follows x y → All (λ visit. IsTrue (names_place two_trips visit)) (followed_by x y).visits →
    length (followed_by x y).visits ≤ most_visits → joint (leg_duration two_trips 0) (run_stops two_trips one_vehicle x) (run_stops two_trips one_vehicle y) ≡ 5 →
    IsSoundTrips left → IsSoundTrips right → StandsForRun two_trips one_vehicle left x → StandsForRun two_trips one_vehicle right y → CanMerge left right (pos 5) 10
merges x y left right follows named few e sound_left sound_right stands_left stands_right =
    subst (λ (n : ℕ). CanMerge left right (pos n) 10) e
    (runs-can two_trips one_vehicle x y left right sound_left sound_right follows
    (record { is_run = record { valid = two_trips-valid; allowed = vehicle-valid; named = named }; few = few }) stands_left stands_right)

-- the visits of the list are there
abbrev pub Named : List Visit → Type 0
Named visits = All (λ visit. IsTrue (names_place two_trips visit)) visits

pub named-1 : Named (Client 1 ∷ [])
named-1 = All-from_recursion (λ visit. IsTrue (names_place two_trips visit)) (Client 1 ∷ []) (refl, tt)

pub named-2 : Named (Client 1 ∷ Reload 0 ∷ [])
named-2 = All-from_recursion (λ visit. IsTrue (names_place two_trips visit)) (Client 1 ∷ Reload 0 ∷ []) (refl, (refl, tt))

pub named-3 : Named (Client 1 ∷ Reload 0 ∷ Client 2 ∷ [])
named-3 = All-from_recursion (λ visit. IsTrue (names_place two_trips visit)) (Client 1 ∷ Reload 0 ∷ Client 2 ∷ []) (refl, (refl, (refl, tt)))

-- a run of it
pub is_run : (x : Run) → Named x.visits → IsRunOf two_trips one_vehicle x
is_run x named = record { valid = two_trips-valid; allowed = vehicle-valid; named = named }

-- the list is one that a vehicle can have
pub listed : IsListed two_trips (Client 1 ∷ Reload 0 ∷ Client 2 ∷ [])
listed = record { tidy = refl; named = refl; few = lit≤ tt }
