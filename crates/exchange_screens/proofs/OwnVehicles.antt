-- The vehicles of a trial's candidate: those of its client and of what its target names.
use Rattle.std.proofs.Common.{◌≡◌, ℕ, [], ◌∷◌, ◌∙◌, ap, Some}
use Rattle.std.specs.Prelude.{All}
use Rattle.search_model.specs.declared.candidate.Target.{Target}
use Rattle.search_model.specs.declared.candidate.Target.TheVariants.{After}
use Rattle.search_model.specs.Edits.{vehicle_of}
use Rattle.search_model.proofs.RunMoves.{lawful-once}
use Rattle.search_model.proofs.TailMoves.{vehicle_of-at}
use Rattle.gain_model.specs.CandidateVehicles.{target_vehicle}
use Rattle.move_core.specs.Searches.{IsSound, SearchState}
use Rattle.list_changes.proofs.NodeVehicles.{node-one, node-two}
use Rattle.exchange_screens.specs.declared.piece.Piece.{Piece}
use Rattle.exchange_screens.specs.declared.trial.Trial.{Trial}
use Rattle.exchange_screens.specs.inside.Pieces.{IsPieceFrom}
use Rattle.exchange_screens.specs.Exchanges.{exchange_kind}
use Rattle.exchange_screens.specs.Trials.{IsOwn}

module _ (s : SearchState) (sound : IsSound s) (trial : Trial) (piece : Piece) (is : IsPieceFrom s trial.client trial.n piece) where
  of-client : vehicle_of s.routes trial.client ≡ Some piece.vehicle
  of-client = vehicle_of-at s.routes trial.client piece.vehicle piece.first (lawful-once s.problem s.routes sound.lawful trial.client) is.stands

  pub own-one : All (IsOwn s trial) (piece.vehicle ∷ [])
  own-one = node-one s (exchange_kind trial.n trial.m) trial.client trial.target piece.vehicle of-client

  pub own-two : (other : ℕ) → target_vehicle s.problem s.routes trial.target ≡ Some other → All (IsOwn s trial) (piece.vehicle ∷ other ∷ [])
  own-two = node-two s (exchange_kind trial.n trial.m) trial.client trial.target piece.vehicle of-client

-- the vehicle of a client behind which a target is
pub piece-vehicle : (s : SearchState) → IsSound s → (target : Target) (v n : ℕ) (piece : Piece) → target ≡ After v → IsPieceFrom s v n piece → target_vehicle s.problem s.routes target ≡ Some piece.vehicle
piece-vehicle s sound target v n piece is_after is =
    ap (target_vehicle s.problem s.routes) is_after ∙ vehicle_of-at s.routes v piece.vehicle piece.first (lawful-once s.problem s.routes sound.lawful v) is.stands
