-- Where clients stand, and what the costs of their vehicles are made of.
use Rattle.std.specs.Prelude.{◌≡◌, ℕ, ◌+◌, ◌-◌, ◌≤◌, ◌<◌, Some, length}
use Rattle.problem_data.specs.Limits.{largest}
use Rattle.problem_data.specs.Places.{vehicle_count}
use Rattle.routing_model.specs.Listed.{type_of_vehicle}
use Rattle.routing_model.specs.Routes.{list_at}
use Rattle.search_model.specs.Edits.{position_of}
use Rattle.route_cache.specs.Marks.{place_along}
use Rattle.move_core.specs.Searches.{SearchState, largest_rest, rest_of}
use Rattle.exchange_screens.specs.declared.piece.Piece.{Piece}
use Rattle.exchange_screens.specs.declared.seat.Seat.{Seat}
use Rattle.list_changes.specs.Bounds.{IsPaid}
use Rattle.list_changes.specs.Layouts.{left_layout}
use Rattle.exchange_screens.specs.inside.Pieces.{IsPieceFrom}

-- a client stands there, and the numbers are its vehicle's
pub record IsSeat (s : SearchState) (seat : Seat) : Type 0 where
  pub in_range : seat.vehicle < vehicle_count s.problem
  pub position : position_of s.routes seat.client ≡ Some (seat.vehicle, seat.place)
  pub some : 1 ≤ seat.place
  pub within : seat.place ≤ seat.size
  pub size : seat.size ≡ length (list_at s.routes seat.vehicle)
  pub profile : seat.profile ≡ (type_of_vehicle s.problem seat.vehicle).profile
  pub there : seat.profile < length s.problem.profiles
  pub unit : seat.unit ≡ (type_of_vehicle s.problem seat.vehicle).unit_distance
  pub fixed : seat.fixed ≡ (type_of_vehicle s.problem seat.vehicle).fixed
  pub small : seat.fixed ≤ largest
  pub rest : seat.rest ≡ rest_of s.problem s.weights (type_of_vehicle s.problem seat.vehicle) (list_at s.routes seat.vehicle)
  pub cut : seat.rest ≤ largest_rest

-- the place at a position of a vehicle's list
abbrev pub place_in : SearchState → ℕ → ℕ → ℕ
place_in s vehicle position = place_along (type_of_vehicle s.problem vehicle) (list_at s.routes vehicle) position

-- the visits of a client and those behind it, n together
abbrev pub piece_at : Seat → ℕ → Piece
piece_at seat n = record { vehicle = seat.vehicle; first = seat.place - 1; end = seat.place - 1 + n }

-- the piece of n is there, and what goes of its vehicle's cost at most where others stand in its place
pub record IsTaken (s : SearchState) (seat : Seat) (n paid : ℕ) : Type 0 where
  pub there : IsPieceFrom s seat.client n (piece_at seat n)
  pub goes : IsPaid s seat.vehicle (left_layout (seat.place - 1) (seat.place - 1 + n)) paid
