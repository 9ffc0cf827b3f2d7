use Rattle.std.proofs.Common.{◌≤◌, length, drop}
use Rattle.penalty_cost.specs.inside.Counts.{IsTidiness}
use Rattle.penalty_cost.proofs.lawful.is_tidy.Given as goal

abbrev pub invariant-loop-left : goal.invariant-loop-left
invariant-loop-left l = record {
  in_range : l.left ≤ length l.visits;
  tidiness : IsTidiness (drop l.left l.visits) l.tidiness;
}

abbrev pub decreases-loop-left : goal.decreases-loop-left
decreases-loop-left l = l.left
