-- Laws: segments of runs of a valid problem can be merged and closed, and what whole routes add up to.
use Rattle.std.specs.Prelude.{◌≡◌, ℕ, ◌+◌, ◌*◌, ◌≤◌, pos, List, length}
use Rattle.problem_data.specs.declared.problem.Problem.{Problem}
use Rattle.problem_data.specs.declared.problem.VehicleType.{VehicleType}
use Rattle.problem_data.specs.declared.visit.Visit.{Visit}
use Rattle.problem_data.specs.Limits.{largest, largest_leg, most_visits}
use Rattle.problem_data.specs.Places.{leg_duration}
use Rattle.problem_data.specs.Valid.{IsValid, IsValidType}
use Rattle.routing_model.specs.Clock.{joint}
use Rattle.routing_model.specs.Cost.{distance, route_drive}
use Rattle.routing_model.specs.Load.{excess_load}
use Rattle.routing_model.specs.Stops.{stops}
use Rattle.trips.specs.declared.trip_segment.RouteSegment.{RouteSegment}
use Rattle.trips.specs.declared.trip_segment.TripSegment.{TripSegment}
use Rattle.trips.specs.Conditions.{CanClose, CanMerge, IsSoundRoute, IsSoundTrips}
use Rattle.trips.specs.Runs.{Run, Follows, IsRunOf, followed_by, run_stops, whole}
use Rattle.trips.specs.Standing.{StandsForRoute, StandsForRun}

-- a run of a valid problem, with no more visits than a vehicle can have
pub record IsInRange (p : Problem) (t : VehicleType) (run : Run) : Type 0 where
  pub is_run : IsRunOf p t run
  pub few : length run.visits ≤ most_visits

-- segments of two runs, one behind the other, can be merged over the leg between them
abbrev pub RunsCanBeMerged : Type 0
RunsCanBeMerged = (p : Problem) (t : VehicleType) (x y : Run) (left right : TripSegment) →
    IsSoundTrips left → IsSoundTrips right → Follows x y → IsInRange p t (followed_by x y) →
    StandsForRun p t left x → StandsForRun p t right y →
    CanMerge left right (pos (joint (leg_duration p t.profile) (run_stops p t x) (run_stops p t y))) t.capacity

-- the segment of a whole list can be closed
abbrev pub WholeRunsCanBeClosed : Type 0
WholeRunsCanBeClosed = (p : Problem) (t : VehicleType) (visits : List Visit) (segment : TripSegment) →
    IsSoundTrips segment → IsInRange p t (whole visits) → StandsForRun p t segment (whole visits) → CanClose segment t.capacity

-- the segment tells the drive of these visits from the best start
pub record TellsDrive (p : Problem) (t : VehicleType) (route : RouteSegment) (visits : List Visit) : Type 0 where
  pub duration : route.duration.duration ≡ pos (route_drive p t visits).duration
  pub warp : route.duration.warp ≡ pos (route_drive p t visits).warp

-- the segment of a whole route tells its drive from the best start
abbrev pub RoutesTellDrives : Type 0
RoutesTellDrives = (p : Problem) (t : VehicleType) (route : RouteSegment) (visits : List Visit) →
    IsValid p → IsValidType p t → IsSoundRoute route → StandsForRoute p t route visits → TellsDrive p t route visits

-- what a stop adds at most: to the duration a wait, a service and a leg, and to the warp the time since the last one's window
abbrev pub most_added : ℕ
most_added = 2 * largest + largest_leg

-- what a vehicle's list takes and exceeds is at most so much for each stop
pub record IsBoundedByStops (p : Problem) (t : VehicleType) (visits : List Visit) : Type 0 where
  pub distance : distance p t visits ≤ length (stops p t visits) * most_added
  pub duration : (route_drive p t visits).duration ≤ length (stops p t visits) * most_added
  pub warp : (route_drive p t visits).warp ≤ length (stops p t visits) * most_added
  pub excess_load : excess_load p t visits ≤ length (stops p t visits) * most_added

-- each list that names places of a valid problem
abbrev pub RoutesAreBoundedByStops : Type 0
RoutesAreBoundedByStops = (p : Problem) (t : VehicleType) (visits : List Visit) → IsRunOf p t (whole visits) → IsBoundedByStops p t visits
