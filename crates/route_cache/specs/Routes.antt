-- What routes and views are, without what they keep.
use Rattle.std.specs.Prelude.{◌≡◌, ℕ, Bool, Option, Some, None, List, slice_range}
use Rattle.problem_data.specs.declared.problem.Problem.{Problem}
use Rattle.problem_data.specs.declared.problem.VehicleType.{VehicleType}
use Rattle.problem_data.specs.declared.visit.Visit.{Visit}
use Rattle.problem_data.specs.Valid.{IsValidType}
use Rattle.routing_model.specs.Listed.{type_of_vehicle}
use Rattle.trips.specs.Runs.{Run}

-- the list of a vehicle
pub record RouteState : Type 0 where
  pub problem : Problem
  pub vehicle : ℕ
  pub visits : List Visit

-- A run of some list: the vehicle whose route lends it, if one does, the whole list, the positions of the run's first visit and behind
-- its last, and whether the start and the end belong to it.
pub record ViewState : Type 0 where
  pub problem : Problem
  pub vehicle : Option ℕ
  pub list : List Visit
  pub first : ℕ
  pub end : ℕ
  pub starts : Bool
  pub ends : Bool

-- the visits that a view lends
abbrev pub lent : ViewState → List Visit
lent view = slice_range view.list view.first view.end

-- the stops and visits that a view stands for
abbrev pub run_of : ViewState → Run
run_of view = record { starts = view.starts; visits = lent view; ends = view.ends }

-- the type by which a view's numbers are right: that of the vehicle whose route lends it; where none does, each type
abbrev pub IsTypeFor : Problem → Option ℕ → VehicleType → Type 0
IsTypeFor p (Some vehicle) t = t ≡ type_of_vehicle p vehicle
IsTypeFor p None t = IsValidType p t
