-- Weights within bounds.
use Rattle.std.specs.Prelude.{ℕ}
use Rattle.routing_model.specs.declared.weights.Weights.{Weights}
use Rattle.genetic_model.specs.Ranges.{IsFrom}

-- each weight is from 1 to the most
pub record AreWeightsWithin (most : ℕ) (w : Weights) : Type 0 where
  pub load : IsFrom 1 most w.load
  pub warp : IsFrom 1 most w.warp
  pub distance : IsFrom 1 most w.distance
