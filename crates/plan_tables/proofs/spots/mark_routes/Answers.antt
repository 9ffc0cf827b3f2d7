use Rattle.std.proofs.Common.{arith, length, subst, List, ◌-◌}
use Rattle.problem_data.specs.declared.visit.Visit.{Visit}
use Rattle.plan_tables.specs.Routes.{lists_of}
use Rattle.plan_tables.specs.inside.Marks.{MarksList}
use Rattle.plan_tables.proofs.SpotMarks.{lists-at, lists-count, marked-all, marked-at, marked-end}
use Rattle.plan_tables.proofs.spots.mark_routes.Goals as goal

pub loop-left-init : goal.loop-left-init
loop-left-init c = record {
  in_list = omega arith;
  marked = marked-end (length c.args.spots.now) (length c.args.routes.now) (lists_of c.args.routes.now) c.args.spots.now (omega (arith, lists-count c.args.routes.now)) c.requires.free;
}

pub loop-left-preserved : goal.loop-left-preserved
loop-left-preserved c = record {
  in_list = omega (arith, c.loop-left.invariant.in_list);
  marked =
      marked-at (length c.args.spots.now) c.loop-left.left c.index-routes-left.result.visits (lists_of c.args.routes.now) c.loop-left.spots c.mark_list.new.spots c.loop-left-test.true
      (omega (arith, lists-count c.args.routes.now, c.loop-left.invariant.in_list)) c.loop-left.invariant.marked
      (subst (λ (xs : List Visit). MarksList (c.loop-left.left - 1) 0 xs c.loop-left.spots c.mark_list.new.spots)
      (lists-at c.args.routes.now (c.loop-left.left - 1) c.index-routes-left.result c.visits.result.now c.visits.ensures.visits c.index-routes-left.is) c.mark_list.ensures);
}

pub returns : goal.returns
returns c = marked-all (length c.args.spots.now) c.loop-left.left (lists_of c.args.routes.now) c.loop-left.spots (omega arith) c.loop-left.invariant.marked
