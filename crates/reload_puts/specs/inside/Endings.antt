-- How a list goes on behind a new reload.
use Rattle.std.specs.Prelude.{ℕ, ◌+◌, true, false, Option, None, Some}
use Rattle.problem_data.specs.declared.visit.Visit.{Visit}
use Rattle.problem_data.specs.declared.visit.Visit.TheVariants.{Client, Reload}
use Rattle.reload_puts.specs.declared.ending.Ending.{Ending}

-- from a position on, by the visit there: a reload there goes, and where nothing comes the new one goes
abbrev pub ending_by : Option Visit → ℕ → Ending
ending_by None at = record { right = at; stays = false }
ending_by (Some (Client place)) at = record { right = at; stays = true }
ending_by (Some (Reload depot)) at = record { right = at + 1; stays = true }
