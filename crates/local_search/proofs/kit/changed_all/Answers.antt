use Rattle.std.proofs.Common.{arith}
use Rattle.std.proofs.Math.Seq.{map-set_same}
use Rattle.local_search.specs.inside.Kits.{with_present_list}
use Rattle.local_search.proofs.Kits.{All-take_more, All-take_all, first_left, still_left}
use Rattle.local_search.proofs.kit.changed_all.Goals as goal

pub changed_one-requires-clause-some : goal.changed_one-requires-clause-some
changed_one-requires-clause-some g c = record {
  lists = c.requires.some.0;
  one_list_each = c.requires.some.1.0;
  fit = rw (first_left c.loop-op.kit c.args.kit.now c.loop-op.op-index c.op-item.result c.loop-op.invariant.left) (c.requires.some.1.1 c.loop-op.op-index c.op-item.result (omega arith));
}

pub loop-op-preserved : goal.loop-op-preserved
loop-op-preserved g c = record {
  kinds = grind (arith, map-set_same, c.loop-op.invariant.kinds);
  done = λ S h. All-take_more c.loop-op.kit c.loop-op.op-index c.changed_one.new.op (λ b. (goal.Operator-dyn g (b.vtable, b.value)).fits b.value c.args.search.now.problem (with_present_list c.args.search.now.routes c.args.vehicle S) c.args.search.now.weights) (omega arith) (c.loop-op.invariant.done S h)
      (c.changed_one.ensures.fits S (rw (first_left c.loop-op.kit c.args.kit.now c.loop-op.op-index c.op-item.result c.loop-op.invariant.left) (h c.loop-op.op-index c.op-item.result (omega arith))));
  left = still_left c.loop-op.kit c.args.kit.now c.loop-op.op-index c.changed_one.new.op c.loop-op.invariant.left;
  tallies = grind (arith, map-set_same, c.loop-op.invariant.tallies);
}

pub returns-clause-fits : goal.returns-clause-fits
returns-clause-fits g c = λ S h. All-take_all c.loop-op.kit c.loop-op.op-index (λ b. (goal.Operator-dyn g (b.vtable, b.value)).fits b.value c.args.search.now.problem (with_present_list c.args.search.now.routes c.args.vehicle S) c.args.search.now.weights) (omega arith) (c.loop-op.invariant.done S h)
