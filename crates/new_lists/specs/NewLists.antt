-- New lists, by parts of a plan, and the plan with them.
use Rattle.std.specs.Prelude.{◌≢◌, ℕ, ◌<◌, ◌≤◌, IsTrue, List, [], ◌∷◌, ◌++◌, length, slice_range, slice_set}
use Rattle.problem_data.specs.declared.visit.Visit.{Visit}
use Rattle.problem_data.specs.Places.{is_client_place, is_depot_place, vehicle_count}
use Rattle.routing_model.specs.Listed.{IsListed}
use Rattle.routing_model.specs.Routes.{Routes, list_at}
use Rattle.gain_model.specs.declared.part.Part.{Part}
use Rattle.gain_model.specs.declared.part.Part.TheVariants.{Client, Reload, Run}
use Rattle.gain_model.specs.Gains.{part_visits}
use Rattle.move_core.specs.Searches.{SearchState}
use Rattle.new_lists.specs.declared.new_list.NewList.{NewList}
use Rattle.new_lists.specs.declared.new_list.NewLists.{NewLists}
use Rattle.new_lists.specs.declared.new_list.NewLists.TheVariants.{One, Two}

-- the visits of a new list: the first ones of the vehicle's own list, those of the parts, and the last ones of its own list
abbrev pub list_of : Routes → NewList → List Visit
list_of routes list = let own : List Visit = list_at routes list.vehicle in
    slice_range own 0 list.left ++ (part_visits routes list.one ++ (part_visits routes list.two ++ (part_visits routes list.three ++ slice_range own list.right (length own))))

-- a new list with one part
abbrev pub list_with_part : ℕ → ℕ → Part → ℕ → NewList
list_with_part vehicle left part right = record { vehicle = vehicle; left = left; one = part; two = Run vehicle 0 0; three = Run vehicle 0 0; right = right }

-- the plan with new lists, and the vehicles that have them
abbrev pub plan_of : Routes → NewLists → Routes
plan_of routes (One list) = slice_set routes list.vehicle (list_of routes list)
plan_of routes (Two one two) = slice_set (slice_set routes one.vehicle (list_of routes one)) two.vehicle (list_of routes two)

abbrev pub vehicles_in : NewLists → List ℕ
vehicles_in (One list) = list.vehicle ∷ []
vehicles_in (Two one two) = one.vehicle ∷ two.vehicle ∷ []

-- a run lies within the list of a vehicle that is there
pub record IsRun (s : SearchState) (vehicle first end : ℕ) : Type 0 where
  pub in_range : vehicle < vehicle_count s.problem
  pub in_order : first ≤ end
  pub in_list : end ≤ length (list_at s.routes vehicle)

-- a part is there: a run, or a place of its kind
abbrev pub IsPart : SearchState → Part → Type 0
IsPart s (Run vehicle first end) = IsRun s vehicle first end
IsPart s (Client place) = IsTrue (is_client_place s.problem place)
IsPart s (Reload depot) = IsTrue (is_depot_place s.problem depot)

-- the vehicle and all parts are there, and the vehicle can have the new list
pub record IsNewList (s : SearchState) (list : NewList) : Type 0 where
  pub in_range : list.vehicle < vehicle_count s.problem
  pub left : list.left ≤ length (list_at s.routes list.vehicle)
  pub right : list.right ≤ length (list_at s.routes list.vehicle)
  pub one : IsPart s list.one
  pub two : IsPart s list.two
  pub three : IsPart s list.three
  pub listed : IsListed s.problem (list_of s.routes list)

-- the new lists of two vehicles
pub record AreApart (s : SearchState) (one two : NewList) : Type 0 where
  pub apart : two.vehicle ≢ one.vehicle
  pub first : IsNewList s one
  pub second : IsNewList s two

-- new lists that can be made
abbrev pub AreNewLists : SearchState → NewLists → Type 0
AreNewLists s (One list) = IsNewList s list
AreNewLists s (Two one two) = AreApart s one two
