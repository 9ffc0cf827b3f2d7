use Rattle.std.proofs.Common.{arith}
use Rattle.plan_tables.proofs.SpotMarks.{marks-all, marks-at, marks-end}
use Rattle.plan_tables.proofs.spots.mark_list.Goals as goal

pub loop-left-init : goal.loop-left-init
loop-left-init c = record {
  in_list = omega arith;
  marked = marks-end c.args.vehicle c.args.visits.now c.args.spots.now;
}

pub loop-left-preserved : goal.loop-left-preserved
loop-left-preserved c = record {
  in_list = omega arith;
  marked = marks-at c.args.vehicle c.loop-left.left _ c.args.visits.now c.args.spots.now c.loop-left.spots c.mark_visit.new.spots (omega arith) c.loop-left.invariant.in_list c.loop-left.invariant.marked c.mark_visit.ensures;
}

pub returns : goal.returns
returns c = marks-all c.args.vehicle c.loop-left.left c.args.visits.now c.args.spots.now c.loop-left.spots (omega arith) c.loop-left.invariant.marked
