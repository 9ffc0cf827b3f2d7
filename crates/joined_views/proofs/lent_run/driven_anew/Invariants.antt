use Rattle.std.proofs.Common.{take}
use Rattle.problem_data.specs.Reads.{RoseAtMost}
use Rattle.joined_views.specs.inside.Recounts.{visits_alone}
use Rattle.joined_views.specs.inside.Joined.{IsOpen}
use Rattle.joined_views.proofs.lent_run.driven_anew.Given as goal

abbrev pub invariant-loop-k : goal.invariant-loop-k
invariant-loop-k l = record {
  run : IsOpen l.given l.vehicle_type l.run (visits_alone (take l.k l.visits));
  reads : RoseAtMost l.k l.fn.reads l.reads;
}
