use Rattle.std.proofs.Common.{◌*◌, take}
use Rattle.problem_data.specs.Reads.{RoseAtMost}
use Rattle.reload_puts.specs.Puts.{put_candidate}
use Rattle.depot_moves.specs.inside.Gains.{IsBest, put_plans}
use Rattle.depot_moves.proofs.best.best_gain.Given as goal

-- the best at the depots so far
abbrev pub invariant-loop-k : goal.invariant-loop-k
invariant-loop-k l = record {
  best : IsBest l.search (put_candidate l.beside l.seats.client l.seats.neighbour) (put_plans l.search l.beside l.seats (take l.k l.depots)) l.best;
  reads : RoseAtMost (l.k * 12) l.fn.reads l.reads;
}
