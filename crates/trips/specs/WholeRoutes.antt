-- What a whole list adds up to.
use Rattle.std.specs.Prelude.{◌≡◌, pos, List}
use Rattle.problem_data.specs.declared.problem.Problem.{Problem}
use Rattle.problem_data.specs.declared.problem.VehicleType.{VehicleType}
use Rattle.problem_data.specs.declared.visit.Visit.{Visit}
use Rattle.routing_model.specs.Cost.{distance}
use Rattle.segments.specs.Totals.{IsTotal}
use Rattle.trips.specs.declared.whole_route.WholeRoute.{WholeRoute}
use Rattle.trips.specs.Conditions.{IsSoundRoute}
use Rattle.trips.specs.RunSegments.{prizes_of}
use Rattle.trips.specs.Standing.{StandsForRoute}

-- the drive, the excess load, the distance and the prizes of a whole list, for a vehicle of this type
pub record IsWhole (p : Problem) (t : VehicleType) (visits : List Visit) (route : WholeRoute) : Type 0 where
  pub sound : IsSoundRoute route.segment
  pub stands : StandsForRoute p t route.segment visits
  pub sound_distance : IsTotal route.distance
  pub is_distance : route.distance ≡ pos (distance p t visits)
  pub prizes : route.prizes ≡ prizes_of p visits
