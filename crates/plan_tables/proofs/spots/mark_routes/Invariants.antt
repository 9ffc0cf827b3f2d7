use Rattle.std.proofs.Common.{drop, length, ◌≤◌}
use Rattle.plan_tables.specs.Routes.{lists_of}
use Rattle.plan_tables.specs.inside.Marks.{AreMarkedFrom}
use Rattle.plan_tables.proofs.spots.mark_routes.Given as goal

abbrev pub invariant-loop-left : goal.invariant-loop-left
invariant-loop-left l = record {
  in_list : l.left ≤ length l.routes;
  marked : AreMarkedFrom (length l.fn.spots) l.left (drop l.left (lists_of l.routes)) l.spots;
}

abbrev pub decreases-loop-left : goal.decreases-loop-left
decreases-loop-left l = l.left
