-- How far it is over the runs of a new list.
use Rattle.std.specs.Prelude.{ℕ, ◌+◌, List, slice_range}
use Rattle.problem_data.specs.declared.problem.Problem.{Problem}
use Rattle.problem_data.specs.declared.problem.VehicleType.{VehicleType}
use Rattle.problem_data.specs.declared.visit.Visit.{Visit}
use Rattle.problem_data.specs.Places.{leg_distance}
use Rattle.routing_model.specs.Listed.{type_of_vehicle}
use Rattle.routing_model.proofs.Paths.{through}
use Rattle.route_cache.specs.Marks.{place_along}
use Rattle.route_cache.specs.Routes.{RouteState}
use Rattle.list_changes.specs.declared.layout.Layout.{Layout}

-- the visits that a layout leaves out
abbrev pub own_run : List Visit → Layout → List Visit
own_run visits layout = slice_range visits layout.left layout.right

-- how far it is for a vehicle of a type over some visits in their place
abbrev pub way_by : Problem → VehicleType → List Visit → Layout → List Visit → ℕ
way_by p t visits layout run = through (leg_distance p t.profile) (place_along t visits layout.left) run (place_along t visits (layout.right + 1))

abbrev pub way_in : RouteState → Layout → List Visit → ℕ
way_in route layout run = way_by route.problem (type_of_vehicle route.problem route.vehicle) route.visits layout run
