use Rattle.std.proofs.Common.{◌≡◌, ◌+◌, ◌*◌, length}
use Rattle.problem_data.specs.Reads.{RoseAtMost}
use Rattle.star_pairs.specs.inside.Pairs.{AreKept}
use Rattle.star_pairs.proofs.pairs.keep_places.Given as goal

abbrev pub invariant-loop-at : goal.invariant-loop-at
invariant-loop-at l = record {
  kept : AreKept l.first l.second l.at l.kept;
  room : length l.kept ≡ length l.fn.kept;
  reads : RoseAtMost (l.at * (2 * (length l.second.visits + 1))) l.fn.reads l.reads;
}
