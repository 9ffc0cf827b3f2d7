use Rattle.route_cache.specs.inside.Passes.{IsBackward}
use Rattle.route_cache.proofs.backward.passed_backward.Given as goal

abbrev pub invariant-loop-k : goal.invariant-loop-k
invariant-loop-k l = record {
  backward : IsBackward l.given l.vehicle_type l.visits l.k l.backward;
}
