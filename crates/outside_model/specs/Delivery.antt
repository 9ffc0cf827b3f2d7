-- What a program leaves: the texts of its outputs and its exit status.
use Rattle.std.specs.Prelude.{◌≡◌, ℕ, ◌⊎◌, List}
use Rattle.outside_model.specs.Sinks.{SinkOfCall, HasFault, HoldsWhole, IsGiven}

-- the text for the output, the text for errors, and the exit status
pub record Effects : Type 0 where
  pub out : List ℕ
  pub err : List ℕ
  pub status : ℕ

-- The texts are given, and the status is that of the effects, both texts being whole, or 4, which comes only where a count of
-- faults rose.
pub record Delivers (effects : Effects) (out err : SinkOfCall) (status : ℕ) : Type 0 where
  pub out_given : IsGiven effects.out out
  pub err_given : IsGiven effects.err err
  pub answered : ((status ≡ effects.status) × HoldsWhole effects.out out × HoldsWhole effects.err err)
      ⊎ ((status ≡ 4) × (HasFault out ⊎ HasFault err))
