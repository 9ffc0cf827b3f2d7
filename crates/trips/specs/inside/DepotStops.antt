-- Pieces of single stops at depots.
use Rattle.std.specs.Prelude.{ℕ, [], ◌∷◌}
use Rattle.problem_data.specs.declared.problem.Problem.{Problem}
use Rattle.problem_data.specs.declared.problem.Window.{Window}
use Rattle.problem_data.specs.declared.problem.VehicleType.{VehicleType}
use Rattle.routing_model.specs.Stops.{stop_at}
use Rattle.trips.specs.declared.piece.Piece.{Piece}
use Rattle.trips.specs.Standing.{StandsForStretch}

-- the piece stands for a stop at a depot alone, wherever that is
abbrev pub StandsAtDepot : Window → ℕ → Piece → Type 0
StandsAtDepot window service piece = (p : Problem) (t : VehicleType) (depot : ℕ) →
    StandsForStretch p t piece (record { stops = stop_at depot 0 window service ∷ []; clients = [] })
