-- What a view tells of the stops and visits that it stands for.
use Rattle.std.specs.Prelude.{◌≡◌, ℤ, pos}
use Rattle.problem_data.specs.declared.problem.VehicleType.{VehicleType}
use Rattle.problem_data.specs.Places.{leg_distance}
use Rattle.routing_model.specs.Cost.{length_of}
use Rattle.trips.specs.declared.trip_segment.TripSegment.{TripSegment}
use Rattle.trips.specs.Runs.{run_stops}
use Rattle.trips.specs.Standing.{StandsForRun}
use Rattle.route_cache.specs.Routes.{IsTypeFor, ViewState, run_of}

-- the segment stands for the view's stops and visits
abbrev pub StandsForView : ViewState → TripSegment → Type 0
StandsForView view segment = (t : VehicleType) → IsTypeFor view.problem view.vehicle t → StandsForRun view.problem t segment (run_of view)

-- this is how far it is along the view's stops
abbrev pub IsDistanceOfView : ViewState → ℤ → Type 0
IsDistanceOfView view driven = (t : VehicleType) → IsTypeFor view.problem view.vehicle t →
    driven ≡ pos (length_of (leg_distance view.problem t.profile) (run_stops view.problem t (run_of view)))
