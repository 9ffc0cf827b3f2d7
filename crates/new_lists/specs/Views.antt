-- The views that are a new list.
use Rattle.std.specs.Prelude.{◌≡◌, ℕ, ◌<◌, ◌==◌, true, false, All, Option, Some, None, List, [], ◌∷◌, ◌++◌, length, option_map, if◌then◌else◌}
use Rattle.problem_data.specs.declared.problem.Problem.{Problem}
use Rattle.problem_data.specs.declared.visit.Visit.{Visit}
use Rattle.problem_data.specs.declared.visit.Visit.TheVariants as visit
use Rattle.routing_model.specs.Routes.{list_at}
use Rattle.gain_model.specs.declared.part.Part.{Part}
use Rattle.gain_model.specs.declared.part.Part.TheVariants.{Client, Reload, Run}
use Rattle.gain_model.specs.declared.part.Side.{Side}
use Rattle.gain_model.specs.declared.part.Side.TheVariants.{First, Second}
use Rattle.penalty_cost.specs.Proposals.{ProposalState, SideState}
use Rattle.route_cache.specs.Routes.{RouteState, ViewState}
use Rattle.move_core.specs.Searches.{SearchState}
use Rattle.new_lists.specs.declared.new_list.NewList.{NewList}
use Rattle.new_lists.specs.declared.new_list.NewLists.{NewLists}
use Rattle.new_lists.specs.declared.new_list.NewLists.TheVariants.{One, Two}

-- a route's first visits with the start, a run of its visits, and its last visits with the end
abbrev pub front_view : RouteState → ℕ → ViewState
front_view route end = record { problem = route.problem; vehicle = Some route.vehicle; list = route.visits; first = 0; end = end; starts = true; ends = false }

abbrev pub run_view : RouteState → ℕ → ℕ → ViewState
run_view route first end = record { problem = route.problem; vehicle = Some route.vehicle; list = route.visits; first = first; end = end; starts = false; ends = false }

abbrev pub back_view : RouteState → ℕ → ViewState
back_view route first = record { problem = route.problem; vehicle = Some route.vehicle; list = route.visits; first = first; end = length route.visits; starts = false; ends = true }

-- a visit that no route lends
abbrev pub visit_view : Problem → Visit → ViewState
visit_view p visit = record { problem = p; vehicle = None; list = visit ∷ []; first = 0; end = 1; starts = false; ends = false }

-- no view where the run is empty
abbrev pub run_views : RouteState → ℕ → ℕ → List ViewState
run_views route first end = if first == end then [] else (run_view route first end ∷ [])

-- the route of a search's vehicle
abbrev pub route_at : SearchState → ℕ → RouteState
route_at s vehicle = record { problem = s.problem; vehicle = vehicle; visits = list_at s.routes vehicle }

-- the views of a part
abbrev pub part_views : SearchState → Part → List ViewState
part_views s (Run vehicle first end) = run_views (route_at s vehicle) first end
part_views s (Client place) = visit_view s.problem (visit.Client place) ∷ []
part_views s (Reload depot) = visit_view s.problem (visit.Reload depot) ∷ []

-- the views of a new list
abbrev pub front_views : SearchState → NewList → List ViewState
front_views s list = front_view (route_at s list.vehicle) list.left ∷ []

abbrev pub back_views : SearchState → NewList → List ViewState
back_views s list = back_view (route_at s list.vehicle) list.right ∷ []

abbrev pub list_views : SearchState → NewList → List ViewState
list_views s list = (((front_views s list ++ part_views s list.one) ++ part_views s list.two) ++ part_views s list.three) ++ back_views s list

-- a proposal with more views on a side
abbrev pub with_more : List ViewState → SideState → SideState
with_more views side = record side { views = side.views ++ views }

abbrev pub added : ProposalState → Side → List ViewState → ProposalState
added proposal First views = record proposal { first = with_more views proposal.first }
added proposal Second views = record proposal { second = option_map (with_more views) proposal.second }

-- the side is there and has room for a view, and the end isn't among its views
pub record HasRoom (side : SideState) : Type 0 where
  pub room : length side.views < 8
  pub goes_on : All (λ (view : ViewState). view.ends ≡ false) side.views

abbrev pub IsOpen : Option SideState → Type 0
IsOpen None = ⊥
IsOpen (Some side) = HasRoom side

-- a route's side, without views
abbrev pub empty_side : RouteState → SideState
empty_side route = record { vehicle = route.vehicle; list = route.visits; views = [] }

-- what is proposed for new lists
abbrev pub side_of : SearchState → NewList → SideState
side_of s list = with_more (list_views s list) (empty_side (route_at s list.vehicle))

abbrev pub proposal_of : SearchState → NewLists → ProposalState
proposal_of s (One list) = record { problem = s.problem; first = side_of s list; second = None }
proposal_of s (Two one two) = record { problem = s.problem; first = side_of s one; second = Some (side_of s two) }
