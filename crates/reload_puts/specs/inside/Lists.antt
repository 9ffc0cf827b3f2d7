-- The new lists of a client that is put behind another one with a reload directly before it.
use Rattle.std.specs.Prelude.{ℕ, ◌+◌}
use Rattle.gain_model.specs.declared.part.Part.TheVariants.{Client, Reload, Run}
use Rattle.new_lists.specs.declared.new_list.NewList.{NewList}
use Rattle.new_lists.specs.NewLists.{list_with_part}
use Rattle.list_changes.specs.declared.gap.Gap.{Gap}
use Rattle.reload_puts.specs.declared.seats.Seats.{Seats}

-- the client's list without it, and the other list with it
abbrev pub left_list : Seats → Gap → NewList
left_list seats gap = list_with_part seats.vehicle gap.left (Run seats.vehicle 0 0) gap.right

abbrev pub joined_list : Seats → ℕ → NewList
joined_list seats depot =
    record { vehicle = seats.other; left = seats.behind; one = Reload depot; two = Client seats.client; three = Run seats.other 0 0; right = seats.behind }

-- its own list, where it goes further behind, stays where it stands, and goes further before
abbrev pub later_list : Seats → Gap → ℕ → NewList
later_list seats gap depot =
    record { vehicle = seats.vehicle; left = gap.left; one = Run seats.vehicle gap.right seats.behind; two = Reload depot; three = Client seats.client; right = seats.behind }

abbrev pub same_list : Seats → ℕ → NewList
same_list seats depot =
    record { vehicle = seats.vehicle; left = seats.behind; one = Reload depot; two = Client seats.client; three = Run seats.vehicle 0 0; right = seats.position + 1 }

abbrev pub earlier_list : Seats → Gap → ℕ → NewList
earlier_list seats gap depot =
    record { vehicle = seats.vehicle; left = seats.behind; one = Reload depot; two = Client seats.client; three = Run seats.vehicle seats.behind gap.left; right = gap.right }
