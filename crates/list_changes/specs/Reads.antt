-- How many legs it takes to see what new lists improve.
use Rattle.std.specs.Prelude.{ℕ, ◌+◌, ◌==◌, if◌then◌else◌, length}
use Rattle.gain_model.specs.MoveReads.{profile_of}
use Rattle.routing_model.specs.Routes.{list_at}
use Rattle.move_core.specs.Searches.{SearchState}
use Rattle.list_changes.specs.declared.change.Change.{Change}
use Rattle.list_changes.specs.declared.change.Change.TheVariants.{One, Two}
use Rattle.list_changes.specs.declared.layout.Layout.{Layout}
use Rattle.list_changes.specs.Layouts.{runs_of}

-- the visits that come to a vehicle from a list of another profile
abbrev pub foreign_visits : SearchState → ℕ → ℕ → Layout → ℕ
foreign_visits s vehicle lender layout =
    if profile_of s.problem lender == profile_of s.problem vehicle then 0 else length (runs_of (list_at s.routes lender) layout)

-- six joints for each new list, and the legs between visits of another profile
abbrev pub improve_reads : SearchState → Change → ℕ
improve_reads s (One vehicle layout) = 6
improve_reads s (Two first second one two) = 12 + foreign_visits s first second one + foreign_visits s second first two
