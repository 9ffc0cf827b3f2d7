-- The routes of a search.
use Rattle.std.specs.Prelude.{◌≡◌, ℕ, ◌<◌, List, length, map, Option, Some, None, slice_index_or, slice_set}
use Rattle.problem_data.specs.declared.problem.Problem.{Problem}
use Rattle.problem_data.specs.declared.visit.Visit.{Visit}
use Rattle.routing_model.specs.Routes.{Routes}
use Rattle.route_cache.specs.Routes.{RouteState}

-- the list of each route
abbrev pub lists_of : List RouteState → Routes
lists_of states = map (λ (state : RouteState). state.visits) states

-- each route is of the problem, and of the vehicle of its place
pub record AreRoutes (p : Problem) (states : List RouteState) : Type 0 where
  pub problems : (k : ℕ) (none : RouteState) → k < length states → (slice_index_or states k none).problem ≡ p
  pub vehicles : (k : ℕ) (none : RouteState) → k < length states → (slice_index_or states k none).vehicle ≡ k

-- the routes of a plan's lists
pub record AreRoutesOf (p : Problem) (routes : Routes) (states : List RouteState) : Type 0 where
  pub are_lists : lists_of states ≡ routes
  pub are_routes : AreRoutes p states

-- the route of a vehicle with a list
abbrev pub vehicle_route : Problem → List Visit → ℕ → RouteState
vehicle_route p visits vehicle = record { problem = p; vehicle = vehicle; visits = visits }

-- routes with another one in its vehicle's place, if there is one
abbrev pub placed : Option RouteState → List RouteState → List RouteState
placed None states = states
placed (Some state) states = slice_set states state.vehicle state
