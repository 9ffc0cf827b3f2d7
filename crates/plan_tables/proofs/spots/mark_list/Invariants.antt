use Rattle.std.proofs.Common.{drop, length, ◌≤◌}
use Rattle.plan_tables.specs.inside.Marks.{MarksList}
use Rattle.plan_tables.proofs.spots.mark_list.Given as goal

abbrev pub invariant-loop-left : goal.invariant-loop-left
invariant-loop-left l = record {
  in_list : l.left ≤ length l.visits;
  marked : MarksList l.vehicle l.left (drop l.left l.visits) l.fn.spots l.spots;
}

abbrev pub decreases-loop-left : goal.decreases-loop-left
decreases-loop-left l = l.left
