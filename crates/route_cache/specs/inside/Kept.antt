-- What a route keeps beside its list.
use Rattle.std.specs.Prelude.{◌≡◌, ℕ, ◌+◌, ◌<◌, List, length}
use Rattle.problem_data.specs.declared.problem.Problem.{Problem}
use Rattle.problem_data.specs.declared.problem.VehicleType.{VehicleType}
use Rattle.problem_data.specs.declared.visit.Visit.{Visit}
use Rattle.problem_data.specs.Places.{vehicle_count}
use Rattle.problem_data.specs.Valid.{IsValid, IsValidType}
use Rattle.routing_model.specs.Listed.{IsListed, type_of_vehicle}
use Rattle.trips.specs.Spans.{spans_from, trips_in}
use Rattle.trips.specs.WholeRoutes.{IsWhole}
use Rattle.route_cache.specs.declared.kept.Kept.{Kept}
use Rattle.route_cache.specs.inside.Passes.{IsMarked}
use Rattle.route_cache.specs.inside.Shapes.{front, back}
use Rattle.route_cache.specs.inside.Tables.{IsTable}

-- all that is kept beside a list
pub record IsKept (p : Problem) (t : VehicleType) (visits : List Visit) (kept : Kept) : Type 0 where
  pub marked : IsMarked p t visits (length visits + 1) kept.marks.items kept.durations.items
  pub before : IsTable p t front visits (length visits) kept.before.pieces.items kept.before.middles.items kept.before.outer
  pub after : IsTable p t back visits (length visits) kept.after.pieces.items kept.after.middles.items kept.after.outer
  pub has_trips : kept.trips.items ≡ spans_from 0 (trips_in visits)
  pub has_whole : IsWhole p t visits kept.whole

-- a vehicle of a valid problem, and a list that it can have
pub record IsRoute (p : Problem) (vehicle : ℕ) (visits : List Visit) : Type 0 where
  pub valid : IsValid p
  pub in_range : vehicle < vehicle_count p
  pub allowed : IsValidType p (type_of_vehicle p vehicle)
  pub listed : IsListed p visits
