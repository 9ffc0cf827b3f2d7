use Rattle.std.proofs.Common.{◌+◌, ◌*◌, length}
use Rattle.problem_data.specs.Reads.{RoseAtMost}
use Rattle.star_pairs.specs.inside.Pairs.{IsBestSoFar}
use Rattle.star_pairs.proofs.pairs.best_pair.Given as goal

abbrev pub invariant-loop-v_at : goal.invariant-loop-v_at
invariant-loop-v_at l = record {
  best : IsBestSoFar l.first l.second l.v_at 0 l.best;
  reads : RoseAtMost (length l.first.visits * (2 * (length l.second.visits + 1)) + (2 * (length l.first.visits + 1) + 4) + l.v_at * (2 * (length l.first.visits + 1) + length l.first.visits * 4)) l.fn.reads l.reads;
}
