-- Where a client and its neighbour stand.
use Rattle.std.specs.Prelude.{◌≡◌, ◌≢◌, ◌==◌, ◌&&◌, not, Bool, ℕ, ◌-◌, ◌<◌, ◌≤◌, Some, slice_get}
use Rattle.problem_data.specs.declared.visit.Visit.TheVariants.{Client}
use Rattle.problem_data.specs.Places.{vehicle_count}
use Rattle.routing_model.specs.Routes.{is_visited, list_at}
use Rattle.move_core.specs.Searches.{SearchState}
use Rattle.reload_puts.specs.declared.seats.Seats.{Seats}

-- both are visited, and not one
abbrev pub has_seats : SearchState → ℕ → ℕ → Bool
has_seats s client neighbour = is_visited s.routes client && is_visited s.routes neighbour && not (client == neighbour)

-- where two such clients stand
pub record AreSeats (s : SearchState) (seats : Seats) : Type 0 where
  pub differ : seats.client ≢ seats.neighbour
  pub in_range : seats.vehicle < vehicle_count s.problem
  pub at_client : slice_get (list_at s.routes seats.vehicle) seats.position ≡ Some (Client seats.client)
  pub other_in_range : seats.other < vehicle_count s.problem
  pub some : 1 ≤ seats.behind
  pub at_neighbour : slice_get (list_at s.routes seats.other) (seats.behind - 1) ≡ Some (Client seats.neighbour)

-- those of two clients
pub record IsSeated (s : SearchState) (client neighbour : ℕ) (seats : Seats) : Type 0 where
  pub of_client : seats.client ≡ client
  pub of_neighbour : seats.neighbour ≡ neighbour
  pub stand : AreSeats s seats
