-- What a new list costs at least, and what goes of the old list's cost at most.
use Rattle.std.specs.Prelude.{ℕ, ◌+◌, ◌*◌, ◌^◌, ◌<◌, ◌≤◌, List}
use Rattle.problem_data.specs.declared.problem.VehicleType.{VehicleType}
use Rattle.problem_data.specs.declared.visit.Visit.{Visit}
use Rattle.routing_model.specs.Cost.{distance}
use Rattle.routing_model.specs.Listed.{type_of_vehicle}
use Rattle.routing_model.specs.Load.{excess_load}
use Rattle.routing_model.specs.Routes.{list_at}
use Rattle.move_core.specs.Searches.{SearchState, largest_rest}
use Rattle.list_changes.specs.declared.bound.Bound.{Bound}
use Rattle.list_changes.specs.declared.layout.Layout.{Layout}
use Rattle.list_changes.specs.Changes.{cost_of, new_list}
use Rattle.list_changes.specs.Layouts.{runs_of}
use Rattle.list_changes.specs.Ways.{own_run, way_by}

-- what a vehicle's distance over a list costs, and over some visits in the place of those that a layout leaves out
abbrev pub driven : SearchState → ℕ → List Visit → ℕ
driven s vehicle visits = let t : VehicleType = type_of_vehicle s.problem vehicle in t.unit_distance * distance s.problem t visits

abbrev pub driven_over : SearchState → ℕ → Layout → List Visit → ℕ
driven_over s vehicle layout run = let t : VehicleType = type_of_vehicle s.problem vehicle in t.unit_distance * way_by s.problem t (list_at s.routes vehicle) layout run

-- what a vehicle's excess load with a list costs
abbrev pub overloaded : SearchState → ℕ → List Visit → ℕ
overloaded s vehicle visits = s.weights.load * excess_load s.problem (type_of_vehicle s.problem vehicle) visits

-- what comes with a new list at least: the list costs so much besides its excess load and the distance that stays
pub record IsLeast (s : SearchState) (vehicle lender : ℕ) (layout : Layout) (least : ℕ) : Type 0 where
  pub small : least < 2 ^ 59
  pub holds : least + overloaded s vehicle (new_list s.routes vehicle lender layout) + driven s vehicle (new_list s.routes vehicle lender layout)
      ≤ cost_of s vehicle (new_list s.routes vehicle lender layout) + driven_over s vehicle layout (runs_of (list_at s.routes lender) layout)

-- what goes of the old list's cost at most, where it isn't cut: the list costs no more besides the distance that stays
pub record IsPaid (s : SearchState) (vehicle : ℕ) (layout : Layout) (paid : ℕ) : Type 0 where
  pub cut : paid ≤ largest_rest
  pub holds : paid < largest_rest → cost_of s vehicle (list_at s.routes vehicle) + driven_over s vehicle layout (own_run (list_at s.routes vehicle) layout)
      ≤ paid + driven s vehicle (list_at s.routes vehicle)

-- a bound on what a vehicle's new list changes of its cost: where what goes isn't cut, what comes with the excess load, less what goes,
-- is at most the change
pub record IsBound (s : SearchState) (vehicle lender : ℕ) (layout : Layout) (bound : Bound) : Type 0 where
  pub small : bound.least < 2 ^ 59
  pub cut : bound.paid ≤ largest_rest
  pub holds : bound.paid < largest_rest → cost_of s vehicle (list_at s.routes vehicle) + (bound.least + overloaded s vehicle (new_list s.routes vehicle lender layout))
      ≤ cost_of s vehicle (new_list s.routes vehicle lender layout) + bound.paid
