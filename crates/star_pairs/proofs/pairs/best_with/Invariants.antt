use Rattle.std.proofs.Common.{◌+◌, ◌*◌, length}
use Rattle.problem_data.specs.Reads.{RoseAtMost}
use Rattle.star_pairs.specs.inside.Pairs.{IsBestSoFar}
use Rattle.star_pairs.proofs.pairs.best_with.Given as goal

abbrev pub invariant-loop-u_at : goal.invariant-loop-u_at
invariant-loop-u_at l = record {
  best : IsBestSoFar l.first l.second l.v_at l.u_at l.best;
  reads : RoseAtMost (2 * (length l.first.visits + 1) + l.u_at * 4) l.fn.reads l.reads;
}
