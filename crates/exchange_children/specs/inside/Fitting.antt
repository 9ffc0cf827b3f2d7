-- Reloads that a list may have.
use Rattle.std.specs.Prelude.{ℕ, ◌-◌, ◌&&◌, nat_lt, Option, Some, None, if◌then◌else◌}
use Rattle.problem_data.specs.declared.problem.VehicleType.{VehicleType}
use Rattle.problem_data.specs.declared.visit.Visit.{Visit}
use Rattle.problem_data.specs.declared.visit.Visit.TheVariants.{Client, Reload}
use Rattle.routing_model.specs.Lawful.{is_allowed}

-- how many more reloads a list may have behind a visit where it may have so many before it, if the visit may stay
abbrev pub left_behind : VehicleType → ℕ → Visit → Option ℕ
left_behind t left (Client c) = Some left
left_behind t left (Reload d) = if nat_lt 0 left && is_allowed t (Reload d) then Some (left - 1) else None
