-- Sides of proposals, with what is kept of their routes, and what they cost more.
use Rattle.std.specs.Prelude.{◌≡◌, ℕ, ◌^◌, ◌<◌, ℤ, pos, ◌+ℤ◌, ◌-ℤ◌, Option, Some, None, List}
use Rattle.problem_data.specs.declared.problem.Problem.{Problem}
use Rattle.problem_data.specs.declared.problem.VehicleType.{VehicleType}
use Rattle.problem_data.specs.declared.visit.Visit.{Visit}
use Rattle.problem_data.specs.Places.{vehicle_count}
use Rattle.problem_data.specs.Valid.{IsValidType}
use Rattle.routing_model.specs.declared.weights.Weights.{Weights}
use Rattle.routing_model.specs.Cost.{route_cost}
use Rattle.routing_model.specs.Listed.{IsListed, type_of_vehicle}
use Rattle.gain_model.specs.GainReads.{side_reads}
use Rattle.trips.specs.RunSegments.{prizes_of}
use Rattle.trips.specs.declared.whole_route.WholeRoute.{WholeRoute}
use Rattle.trips.specs.WholeRoutes.{IsWhole}
use Rattle.route_cache.specs.Routes.{ViewState}
use Rattle.joined_views.specs.Views.{ArePlaced, lent_by}
use Rattle.penalty_cost.specs.Proposals.{ProposalState, SideState, seen_side}

-- a vehicle's route and the views of its new list
pub record IsSide (p : Problem) (vehicle : ℕ) (t : VehicleType) (whole : WholeRoute) (list : List Visit) (views : List ViewState) : Type 0 where
  pub in_range : vehicle < vehicle_count p
  pub is_type : t ≡ type_of_vehicle p vehicle
  pub allowed : IsValidType p t
  pub listed : IsListed p list
  pub is_whole : IsWhole p t list whole
  pub placed : ArePlaced p vehicle views

-- the legs read of a second side, if there is one
abbrev pub second_reads : Problem → Option SideState → ℕ
second_reads p None = 0
second_reads p (Some side) = side_reads (seen_side p side)

-- how much more a vehicle costs with another list, prizes of the clients included
abbrev pub change_of : Problem → Weights → VehicleType → List Visit → List Visit → ℤ
change_of p w t old new = (pos (route_cost p w t new) +ℤ pos (prizes_of p old)) -ℤ (pos (route_cost p w t old) +ℤ pos (prizes_of p new))

-- of a side, of a second one where there is one, and of all sides together
abbrev pub side_change : Problem → Weights → SideState → ℤ
side_change p w side = change_of p w (type_of_vehicle p side.vehicle) side.list (lent_by side.views)

abbrev pub second_change : Problem → Weights → Option SideState → ℤ
second_change p w None = pos 0
second_change p w (Some side) = side_change p w side

abbrev pub whole_change : Weights → ProposalState → ℤ
whole_change w proposal = side_change proposal.problem w proposal.first +ℤ second_change proposal.problem w proposal.second

-- the most that it costs more or less
abbrev pub most_change : ℕ
most_change = 10 ^ 28
