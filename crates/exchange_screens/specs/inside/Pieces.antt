-- Pieces, by the positions of their visits.
use Rattle.std.specs.Prelude.{◌≡◌, ℕ, ◌+◌, ◌<◌, ◌≤◌, IsTrue, Some, length, slice_get, slice_range}
use Rattle.std.specs.List.{list_all}
use Rattle.problem_data.specs.declared.visit.Visit.TheVariants.{Client}
use Rattle.problem_data.specs.Places.{vehicle_count}
use Rattle.routing_model.specs.Routes.{is_client, list_at}
use Rattle.move_core.specs.Searches.{SearchState}
use Rattle.exchange_screens.specs.declared.piece.Piece.{Piece}

-- where the piece of n from a client stands
pub record IsPieceFrom (s : SearchState) (client n : ℕ) (piece : Piece) : Type 0 where
  pub in_range : piece.vehicle < vehicle_count s.problem
  pub stands : slice_get (list_at s.routes piece.vehicle) piece.first ≡ Some (Client client)
  pub long : piece.end ≡ piece.first + n
  pub within : piece.end ≤ length (list_at s.routes piece.vehicle)
  pub clients : IsTrue (list_all is_client (slice_range (list_at s.routes piece.vehicle) piece.first piece.end))
