-- What penalties keep.
use Rattle.std.specs.Prelude.{ℕ, ◌≤◌, ◌<◌}
use Rattle.routing_model.specs.declared.weights.Weights.{Weights}
use Rattle.genetic_model.specs.declared.params.PenaltyParams.{PenaltyParams}
use Rattle.genetic_model.specs.Penalties.{Counts as CountsOf}
use Rattle.genetic_model.specs.Ranges.{IsPenaltyInRange}
use Rattle.penalties.specs.declared.counts.Counts.{Counts}
use Rattle.penalties.specs.Weighted.{AreWeightsWithin}

-- the counts that the definitions speak of
abbrev pub as_counts : Counts → CountsOf
as_counts c = record { load = c.load; warp = c.warp; distance = c.distance }

-- counts of so many plans
pub record AreCounts (plans : ℕ) (c : Counts) : Type 0 where
  pub load : c.load ≤ plans
  pub warp : c.warp ≤ plans
  pub distance : c.distance ≤ plans

-- the parameters and the weights are in range, and the weights change before so many plans are counted
pub record ArePenalties (params : PenaltyParams) (w : Weights) (c : Counts) (registered : ℕ) : Type 0 where
  pub params_in_range : IsPenaltyInRange params
  pub weights_within : AreWeightsWithin 1000000 w
  pub counted_few : AreCounts registered c
  pub still_few : registered < params.between
