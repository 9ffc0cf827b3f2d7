-- How many legs it takes to see what new lists improve.
use Rattle.std.specs.Prelude.{ℕ, ◌+◌, ◌==◌, if◌then◌else◌, length}
use Rattle.gain_model.specs.declared.part.Part.{Part}
use Rattle.gain_model.specs.declared.part.Part.TheVariants.{Client, Reload, Run}
use Rattle.gain_model.specs.Gains.{part_visits}
use Rattle.gain_model.specs.MoveReads.{profile_of}
use Rattle.move_core.specs.Searches.{SearchState}
use Rattle.new_lists.specs.declared.new_list.NewList.{NewList}
use Rattle.new_lists.specs.declared.new_list.NewLists.{NewLists}
use Rattle.new_lists.specs.declared.new_list.NewLists.TheVariants.{One, Two}

-- the visits of a part that come to a vehicle from a list of another profile
abbrev pub foreign_visits : SearchState → ℕ → Part → ℕ
foreign_visits s vehicle (Run lender first end) =
    if profile_of s.problem lender == profile_of s.problem vehicle then 0 else length (part_visits s.routes (Run lender first end))
foreign_visits s vehicle (Client place) = 0
foreign_visits s vehicle (Reload depot) = 0

-- six joints for each new list, and the legs between visits of another profile
abbrev pub list_reads : SearchState → NewList → ℕ
list_reads s list = 6 + foreign_visits s list.vehicle list.one + foreign_visits s list.vehicle list.two + foreign_visits s list.vehicle list.three

abbrev pub improve_reads : SearchState → NewLists → ℕ
improve_reads s (One list) = list_reads s list
improve_reads s (Two one two) = list_reads s one + list_reads s two
