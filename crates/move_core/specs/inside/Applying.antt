-- Applying gains.
use Rattle.std.specs.Prelude.{◌≡◌, ◌≢◌, ℕ, length, Option, Some, None, IfSome, List, option_map}
use Rattle.problem_data.specs.declared.problem.Problem.{Problem}
use Rattle.problem_data.specs.declared.visit.Visit.{Visit}
use Rattle.routing_model.specs.Routes.{Routes}
use Rattle.gain_model.specs.Gains.{GainSide, GainState, side_visits}
use Rattle.gain_model.specs.RouteReads.{set_reads}
use Rattle.route_cache.specs.Routes.{RouteState}
use Rattle.plan_tables.specs.Routes.{vehicle_route}

-- what a second vehicle's route may read, if there is one
abbrev pub second_reads : Option ℕ → List Visit → ℕ
second_reads None visits = 0
second_reads (Some vehicle) visits = set_reads (length visits)

-- the route of a side's vehicle with its new list
abbrev pub side_route : Problem → Routes → GainSide → RouteState
side_route p routes side = vehicle_route p (side_visits routes side) side.vehicle

-- the new routes of a gain
pub record AreMadeRoutes (p : Problem) (routes : Routes) (gain : GainState) (route : RouteState) (other : Option RouteState) : Type 0 where
  pub is_route : route ≡ side_route p routes gain.first
  pub is_other : other ≡ option_map (side_route p routes) gain.second
  pub are_apart : IfSome other (λ state. state.vehicle ≢ route.vehicle)
