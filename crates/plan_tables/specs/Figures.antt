-- What is kept of each vehicle.
use Rattle.std.specs.Prelude.{◌≡◌, ℕ, ◌-◌, ◌*◌, ◌^◌, ℤ, pos, List, length, map, min}
use Rattle.problem_data.specs.declared.problem.Problem.{Problem}
use Rattle.problem_data.specs.declared.problem.VehicleType.{VehicleType}
use Rattle.problem_data.specs.declared.visit.Visit.{Visit}
use Rattle.routing_model.specs.declared.weights.Weights.{Weights}
use Rattle.routing_model.specs.Cost.{distance, route_cost}
use Rattle.routing_model.specs.Listed.{type_of_vehicle}
use Rattle.route_cache.specs.Routes.{RouteState}

-- where a rest is cut
abbrev pub largest_rest : ℕ
largest_rest = 2 ^ 61

-- What a used vehicle costs besides its fixed cost and its distance at the unit cost, cut at 2^61. It is 0 where the vehicle is unused,
-- since it then costs nothing.
abbrev pub rest_of : Problem → Weights → VehicleType → List Visit → ℕ
rest_of p w t visits = min largest_rest (route_cost p w t visits - t.fixed - t.unit_distance * distance p t visits)

-- how many visits a route has
abbrev pub size_in : RouteState → ℕ
size_in state = length state.visits

-- what its vehicle costs
abbrev pub cost_in : Weights → RouteState → ℕ
cost_in w state = route_cost state.problem w (type_of_vehicle state.problem state.vehicle) state.visits

-- what it costs besides its fixed cost and its distance
abbrev pub rest_in : Weights → RouteState → ℤ
rest_in w state = pos (rest_of state.problem w (type_of_vehicle state.problem state.vehicle) state.visits)

-- of each vehicle what its route says
pub record AreFigures (w : Weights) (states : List RouteState) (sizes : List ℕ) (rests : List ℤ) (costs : List ℕ) : Type 0 where
  pub are_sizes : sizes ≡ map size_in states
  pub are_rests : rests ≡ map (rest_in w) states
  pub are_costs : costs ≡ map (cost_in w) states
