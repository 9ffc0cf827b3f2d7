-- New lists with a run that another list lends.
use Rattle.std.specs.Prelude.{◌≡◌, ℕ, ◌+◌, ◌<◌}
use Rattle.problem_data.specs.Places.{leg_distance}
use Rattle.move_core.specs.Searches.{SearchState}
use Rattle.list_changes.specs.declared.layout.Layout.{Layout}
use Rattle.exchange_screens.specs.declared.lent.Lent.{Lent}
use Rattle.list_changes.specs.Changes.{IsSide}
use Rattle.list_changes.specs.Bounds.{IsPaid}
use Rattle.exchange_screens.specs.inside.Seats.{IsSeat, place_in}
use Rattle.list_changes.specs.Layouts.{lent_layout}

-- its layout
abbrev pub layout_of : Lent → Layout
layout_of lent = lent_layout lent.left lent.right lent.first lent.end

-- a vehicle's new list with a run of a lender's list: what goes of its cost at most, and the leg to the run
pub record IsLent (s : SearchState) (lent : Lent) (lender : ℕ) : Type 0 where
  pub seat : IsSeat s lent.seat
  pub side : IsSide s lent.seat.vehicle lender (layout_of lent)
  pub some : lent.first < lent.end
  pub goes : IsPaid s lent.seat.vehicle (layout_of lent) lent.paid
  pub come : lent.come ≡ leg_distance s.problem lent.seat.profile (place_in s lent.seat.vehicle lent.left) (place_in s lender (lent.first + 1))
