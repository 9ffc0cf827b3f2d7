-- The places that targets name.
use Rattle.std.specs.Prelude.{◌≡◌, ℕ, ◌-◌, ◌<◌, ◌≤◌, IsFalse, None, Some, slice_get}
use Rattle.std.specs.List.{list_any}
use Rattle.problem_data.specs.declared.visit.Visit.TheVariants.{Client}
use Rattle.problem_data.specs.Places.{vehicle_count}
use Rattle.routing_model.specs.Routes.{Routes, is_visited, list_at}
use Rattle.search_model.specs.declared.candidate.Target.{Target}
use Rattle.search_model.specs.declared.candidate.Target.TheVariants.{After, Empty, StartOf}
use Rattle.search_model.specs.Edits.{begins_with, unused_vehicle}
use Rattle.move_core.specs.Searches.{SearchState}
use Rattle.list_changes.specs.declared.aim.Aim.{Aim}

-- behind a client: it stands before the place
pub record IsBehind (routes : Routes) (client : ℕ) (aim : Aim) : Type 0 where
  pub some : 1 ≤ aim.place
  pub stands : slice_get (list_at routes aim.vehicle) (aim.place - 1) ≡ Some (Client client)

-- before a client that stands first
pub record IsBefore (routes : Routes) (client : ℕ) (aim : Aim) : Type 0 where
  pub front : aim.place ≡ 0
  pub stands : slice_get (list_at routes aim.vehicle) 0 ≡ Some (Client client)

-- an unused vehicle
pub record IsUnused (s : SearchState) (type : ℕ) (aim : Aim) : Type 0 where
  pub front : aim.place ≡ 0
  pub found : unused_vehicle s.problem s.routes type ≡ Some aim.vehicle

-- a target names the place
abbrev pub Names : SearchState → Target → Aim → Type 0
Names s (After client) aim = IsBehind s.routes client aim
Names s (StartOf client) aim = IsBefore s.routes client aim
Names s (Empty type) aim = IsUnused s type aim

-- the place that a target names is there
pub record IsAim (s : SearchState) (target : Target) (aim : Aim) : Type 0 where
  pub in_range : aim.vehicle < vehicle_count s.problem
  pub names : Names s target aim

-- what a target names isn't there
abbrev pub IsNoAim : SearchState → Target → Type 0
IsNoAim s (After client) = IsFalse (is_visited s.routes client)
IsNoAim s (StartOf client) = IsFalse (list_any (begins_with client) s.routes)
IsNoAim s (Empty type) = unused_vehicle s.problem s.routes type ≡ None
