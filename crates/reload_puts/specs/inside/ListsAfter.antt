-- The new lists of a client that is put behind another one with a reload directly after it.
use Rattle.std.specs.Prelude.{ℕ, Bool, if◌then◌else◌}
use Rattle.gain_model.specs.declared.part.Part.{Part}
use Rattle.gain_model.specs.declared.part.Part.TheVariants.{Client, Reload, Run}
use Rattle.new_lists.specs.declared.new_list.NewList.{NewList}
use Rattle.list_changes.specs.declared.gap.Gap.{Gap}
use Rattle.reload_puts.specs.declared.ending.Ending.{Ending}
use Rattle.reload_puts.specs.declared.seats.Seats.{Seats}

-- the reload, or nothing where it doesn't stay
abbrev pub kept_part : ℕ → ℕ → Bool → Part
kept_part vehicle depot stays = if stays then Reload depot else Run vehicle 0 0

-- the other list with the client
abbrev pub joined_list_after : Seats → Ending → ℕ → NewList
joined_list_after seats ending depot =
    record { vehicle = seats.other; left = seats.behind; one = Client seats.client; two = kept_part seats.other depot ending.stays; three = Run seats.other 0 0; right = ending.right }

-- its own list, where it goes further behind, goes further before, and stays where it stands
abbrev pub later_list_after : Seats → Gap → Ending → ℕ → NewList
later_list_after seats gap ending depot =
    record { vehicle = seats.vehicle; left = gap.left; one = Run seats.vehicle gap.right seats.behind; two = Client seats.client; three = kept_part seats.vehicle depot ending.stays; right = ending.right }

abbrev pub earlier_list_after : Seats → Gap → ℕ → ℕ → NewList
earlier_list_after seats gap first depot =
    record { vehicle = seats.vehicle; left = seats.behind; one = Client seats.client; two = Reload depot; three = Run seats.vehicle first gap.left; right = gap.right }

abbrev pub same_list_after : Seats → Ending → ℕ → NewList
same_list_after seats rest depot =
    record { vehicle = seats.vehicle; left = seats.behind; one = Client seats.client; two = kept_part seats.vehicle depot rest.stays; three = Run seats.vehicle 0 0; right = rest.right }
