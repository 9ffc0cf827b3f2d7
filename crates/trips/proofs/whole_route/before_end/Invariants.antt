use Rattle.std.proofs.Common.{◌<◌, true, false}
use Rattle.problem_data.specs.Places.{place_count}
use Rattle.problem_data.specs.Reads.{RoseAtMost}
use Rattle.trips.specs.RunSegments.{HoldsRun, Leaves}
use Rattle.trips.proofs.RunSteps.{part}
use Rattle.trips.proofs.whole_route.before_end.Given as goal

abbrev pub invariant-loop-k : goal.invariant-loop-k
invariant-loop-k l = record {
  so_far : HoldsRun l.given l.vehicle_type l.so_far (part true l.visits 0 l.k false);
  leaves : Leaves l.given l.vehicle_type (part true l.visits 0 l.k false) l.last;
  there : l.last < place_count l.given;
  reads : RoseAtMost l.k l.fn.reads l.reads;
}
