-- What a move changes: the new lists of one vehicle or two.
use Rattle.std.specs.Prelude.{◌≢◌, ℕ, ◌+◌, ◌<◌, ◌≤◌, List, [], ◌∷◌, slice_set}
use Rattle.problem_data.specs.declared.visit.Visit.{Visit}
use Rattle.problem_data.specs.Places.{vehicle_count}
use Rattle.routing_model.specs.Cost.{route_cost}
use Rattle.routing_model.specs.Listed.{IsListed, type_of_vehicle}
use Rattle.routing_model.specs.Routes.{Routes, list_at}
use Rattle.move_core.specs.Searches.{SearchState}
use Rattle.list_changes.specs.declared.change.Change.{Change}
use Rattle.list_changes.specs.declared.change.Change.TheVariants.{One, Two}
use Rattle.list_changes.specs.declared.layout.Layout.{Layout}
use Rattle.list_changes.specs.Layouts.{IsLayout, laid_out}

-- a vehicle's new list, by runs of a lender's list
abbrev pub new_list : Routes → ℕ → ℕ → Layout → List Visit
new_list routes vehicle lender layout = laid_out (list_at routes vehicle) (list_at routes lender) layout

-- the vehicle and the lender are there, all parts of the new list are, and the vehicle can have it
pub record IsSide (s : SearchState) (vehicle lender : ℕ) (layout : Layout) : Type 0 where
  pub in_range : vehicle < vehicle_count s.problem
  pub lender_in_range : lender < vehicle_count s.problem
  pub laid : IsLayout (list_at s.routes vehicle) (list_at s.routes lender) layout
  pub listed : IsListed s.problem (new_list s.routes vehicle lender layout)

-- two vehicles, each with visits of the other's list
pub record AreSides (s : SearchState) (first second : ℕ) (one two : Layout) : Type 0 where
  pub apart : second ≢ first
  pub first_side : IsSide s first second one
  pub second_side : IsSide s second first two

-- the new lists of a change can be made
abbrev pub IsLaid : SearchState → Change → Type 0
IsLaid s (One vehicle layout) = IsSide s vehicle vehicle layout
IsLaid s (Two first second one two) = AreSides s first second one two

-- the plan with the new lists
abbrev pub new_plan : Routes → Change → Routes
new_plan routes (One vehicle layout) = slice_set routes vehicle (new_list routes vehicle vehicle layout)
new_plan routes (Two first second one two) = slice_set (slice_set routes first (new_list routes first second one)) second (new_list routes second first two)

-- the vehicles whose lists it changes
abbrev pub changed_vehicles : Change → List ℕ
changed_vehicles (One vehicle layout) = vehicle ∷ []
changed_vehicles (Two first second one two) = first ∷ second ∷ []

-- what a vehicle costs with a list
abbrev pub cost_of : SearchState → ℕ → List Visit → ℕ
cost_of s vehicle visits = route_cost s.problem s.weights (type_of_vehicle s.problem vehicle) visits

-- the vehicles cost no less with their new lists
abbrev pub CostsNoLess : SearchState → Change → Type 0
CostsNoLess s (One vehicle layout) = cost_of s vehicle (list_at s.routes vehicle) ≤ cost_of s vehicle (new_list s.routes vehicle vehicle layout)
CostsNoLess s (Two first second one two) =
    cost_of s first (list_at s.routes first) + cost_of s second (list_at s.routes second)
    ≤ cost_of s first (new_list s.routes first second one) + cost_of s second (new_list s.routes second first two)
