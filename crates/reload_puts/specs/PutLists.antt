-- The new lists of a client that is put behind another one with a reload beside it.
use Rattle.std.specs.Prelude.{◌≡◌, ◌≢◌, ℕ, ◌≤◌, All}
use Rattle.move_core.specs.Searches.{SearchState}
use Rattle.new_lists.specs.declared.new_list.NewList.{NewList}
use Rattle.new_lists.specs.declared.new_list.NewLists.{NewLists}
use Rattle.new_lists.specs.declared.new_list.NewLists.TheVariants.{One, Two}
use Rattle.new_lists.specs.Moves.{IsVehicleOf}
use Rattle.new_lists.specs.NewLists.{plan_of, vehicles_in}
use Rattle.new_lists.specs.Reads.{improve_reads}
use Rattle.new_lists.proofs.MadeLists.{HasItsParts}
use Rattle.reload_puts.specs.declared.beside.Beside.{Beside}
use Rattle.reload_puts.specs.declared.seats.Seats.{Seats}
use Rattle.reload_puts.specs.Puts.{put_candidate, put_plan}

-- the positions and the parts of new lists are there
pub record HaveBoth (s : SearchState) (one two : NewList) : Type 0 where
  pub first : HasItsParts s one
  pub second : HasItsParts s two
  pub apart : two.vehicle ≢ one.vehicle

abbrev pub HaveParts : SearchState → NewLists → Type 0
HaveParts s (One list) = HasItsParts s list
HaveParts s (Two one two) = HaveBoth s one two

-- the neighbour's vehicle's new list
abbrev pub neighbour_list : NewLists → NewList
neighbour_list (One list) = list
neighbour_list (Two one two) = two

-- the new lists with a reload at a depot
pub record ArePut (s : SearchState) (beside : Beside) (seats : Seats) (depot : ℕ) (lists : NewLists) : Type 0 where
  pub parts : HaveParts s lists
  pub makes : plan_of s.routes lists ≡ put_plan s beside seats.client seats.neighbour depot
  pub at : (neighbour_list lists).vehicle ≡ seats.other
  pub own : All (IsVehicleOf s (put_candidate beside seats.client seats.neighbour)) (vehicles_in lists)
  pub few : improve_reads s lists ≤ 12
