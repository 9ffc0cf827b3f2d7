-- What a route's marks say. A mark stands at each position: 0 is the start, i the i-th visit, and the last one the end.
use Rattle.std.specs.Prelude.{◌≡◌, ℕ, zero, suc, ◌+◌, ◌≤◌, pos, true, Option, Some, None, List, length, slice_range, slice_get, slice_index_or, nat_lt, not, count_by, sum_by, if◌then◌else◌}
use Rattle.problem_data.specs.declared.problem.Problem.{Problem}
use Rattle.problem_data.specs.declared.problem.VehicleType.{VehicleType}
use Rattle.problem_data.specs.declared.visit.Visit.{Visit}
use Rattle.problem_data.specs.Limits.{largest_leg, most_visits}
use Rattle.problem_data.specs.Places.{client_at, leg_distance}
use Rattle.problem_data.specs.Visits.{is_client, place_of}
use Rattle.routing_model.specs.Cost.{length_of}
use Rattle.routing_model.specs.Routes.{clients_of}
use Rattle.segments.specs.Totals.{IsTotal}
use Rattle.trips.specs.RunSegments.{prizes_of}
use Rattle.trips.specs.Runs.{Run, run_stops}
use Rattle.route_cache.specs.declared.mark.Mark.{Mark}

-- the place of a visit, or the given place where there is none
abbrev pub place_or : ℕ → Option Visit → ℕ
place_or place None = place
place_or place (Some visit) = place_of visit

-- the place at a position
abbrev pub place_along : VehicleType → List Visit → ℕ → ℕ
place_along t visits zero = t.start
place_along t visits (suc i) = place_or t.end (slice_get visits i)

-- from the start up to a position
abbrev pub run_to : List Visit → ℕ → Run
run_to visits i = record { starts = true; visits = slice_range visits 0 i; ends = nat_lt (length visits) i }

-- the deliveries of some visits' clients, added up
abbrev pub deliveries_of : Problem → List Visit → ℕ
deliveries_of p visits = sum_by (λ place. (client_at p place).delivery) (clients_of visits)

-- their pickups, added up
abbrev pub pickups_of : Problem → List Visit → ℕ
pickups_of p visits = sum_by (λ place. (client_at p place).pickup) (clients_of visits)

-- how many reloads there are among some visits
abbrev pub reloads_in : List Visit → ℕ
reloads_in visits = count_by (λ visit. not (is_client visit)) visits

-- the distance of the leg to a position, 0 for the start
abbrev pub leg_to : Problem → VehicleType → List Visit → ℕ → ℕ
leg_to p t visits zero = 0
leg_to p t visits (suc i) = leg_distance p t.profile (place_along t visits i) (place_along t visits (i + 1))

-- the distance of the leg past a position, from the one before it to the one behind it; 0 for the start and the end
abbrev pub leg_over : Problem → VehicleType → List Visit → ℕ → ℕ
leg_over p t visits zero = 0
leg_over p t visits (suc i) = if nat_lt i (length visits) then leg_distance p t.profile (place_along t visits i) (place_along t visits (i + 2)) else 0

-- The mark of a position: sums from the start up to it, its place, and the legs to it and past it.
pub record IsMark (p : Problem) (t : VehicleType) (visits : List Visit) (i : ℕ) (mark : Mark) : Type 0 where
  pub distance : mark.distance ≡ pos (length_of (leg_distance p t.profile) (run_stops p t (run_to visits i)))
  pub delivery : mark.delivery ≡ pos (deliveries_of p (slice_range visits 0 i))
  pub pickup : mark.pickup ≡ pos (pickups_of p (slice_range visits 0 i))
  pub prize : mark.prize ≡ pos (prizes_of p (slice_range visits 0 i))
  pub place : mark.place ≡ place_along t visits i
  pub reloads : mark.reloads ≡ reloads_in (slice_range visits 0 i)
  pub leg : mark.leg ≡ leg_to p t visits i
  pub over : mark.over ≡ leg_over p t visits i

-- its sums are from 0 to 10^16, and its legs no longer than a leg may be
pub record IsSmallMark (mark : Mark) : Type 0 where
  pub distance : IsTotal mark.distance
  pub delivery : IsTotal mark.delivery
  pub pickup : IsTotal mark.pickup
  pub prize : IsTotal mark.prize
  pub reloads : mark.reloads ≤ most_visits
  pub leg : mark.leg ≤ largest_leg
  pub over : mark.over ≤ largest_leg

-- a mark for each position
pub record AreMarks (p : Problem) (t : VehicleType) (visits : List Visit) (marks : List Mark) : Type 0 where
  pub count : length marks ≡ length visits + 2
  pub each : (i : ℕ) (none : Mark) → i ≤ length visits + 1 → IsMark p t visits i (slice_index_or marks i none)
  pub each_small : (i : ℕ) (none : Mark) → i ≤ length visits + 1 → IsSmallMark (slice_index_or marks i none)
