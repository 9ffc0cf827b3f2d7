use Rattle.std.proofs.Common.{◌*◌}
use Rattle.problem_data.specs.Reads.{RoseAtMost}
use Rattle.route_cache.specs.inside.Passes.{IsForward}
use Rattle.route_cache.proofs.forward.passed_forward.Given as goal

abbrev pub invariant-loop-k : goal.invariant-loop-k
invariant-loop-k l = record {
  forward : IsForward l.given l.vehicle_type l.visits l.k l.forward;
  reads : RoseAtMost (2 * l.k) l.fn.reads l.reads;
}
