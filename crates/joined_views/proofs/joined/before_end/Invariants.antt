use Rattle.std.proofs.Common.{◌+◌, ◌-◌, ◌≤◌}
use Rattle.problem_data.specs.Reads.{RoseAtMost}
use Rattle.joined_views.specs.inside.Joined.{IsOpen, anew_before, begun_count, begun_run, open_count}
use Rattle.joined_views.proofs.joined.before_end.Given as goal

abbrev pub invariant-loop-k : goal.invariant-loop-k
invariant-loop-k l = record {
  begun : begun_count l.views ≤ l.k;
  within : l.k ≤ open_count l.views;
  front : IsOpen l.given l.vehicle_type l.front (begun_run l.views l.k);
  reads : RoseAtMost (l.k - begun_count l.views + anew_before l.given l.vehicle_type l.views l.k) l.fn.reads l.reads;
}
