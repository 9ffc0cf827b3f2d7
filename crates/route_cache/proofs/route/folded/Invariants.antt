use Rattle.std.proofs.Common.{◌<◌, false}
use Rattle.trips.specs.RunSegments.{HoldsRun}
use Rattle.route_cache.specs.inside.Tables.{run_up_to}
use Rattle.route_cache.proofs.route.folded.Given as goal

abbrev pub invariant-loop-k : goal.invariant-loop-k
invariant-loop-k l = record {
  some : l.first < l.k;
  holds : HoldsRun l.given l.vehicle_type l.so_far (run_up_to false l.visits l.first l.k);
}
