use Rattle.std.proofs.Common.{arith}
use Rattle.std.proofs.Math.Seq.{map-set_same}
use Rattle.local_search.proofs.Kits.{All-take_more, All-take_all}
use Rattle.local_search.proofs.kit.prepare_all.Goals as goal

pub returns-in_err-prepare_one-clause-kinds : goal.returns-in_err-prepare_one-clause-kinds
returns-in_err-prepare_one-clause-kinds g c = grind (arith, map-set_same, c.loop-op.invariant.kinds)

pub returns-in_err-prepare_one-clause-tallies : goal.returns-in_err-prepare_one-clause-tallies
returns-in_err-prepare_one-clause-tallies g c = grind (arith, map-set_same, c.loop-op.invariant.tallies)

pub loop-op-preserved : goal.loop-op-preserved
loop-op-preserved g c = record {
  kinds = grind (arith, map-set_same, c.loop-op.invariant.kinds);
  fits = All-take_more c.loop-op.kit c.loop-op.op-index c.prepare_one.new.op (λ b. (goal.Operator-dyn g (b.vtable, b.value)).fits b.value c.args.search.now.problem c.args.search.now.routes c.args.search.now.weights) (omega arith) c.loop-op.invariant.fits c.in_ok-prepare_one.ensures.fits;
  tallies = grind (arith, map-set_same, c.loop-op.invariant.tallies);
}

pub returns-clause-fits : goal.returns-clause-fits
returns-clause-fits g c = All-take_all c.loop-op.kit c.loop-op.op-index (λ b. (goal.Operator-dyn g (b.vtable, b.value)).fits b.value c.args.search.now.problem c.args.search.now.routes c.args.search.now.weights) (omega arith) c.loop-op.invariant.fits
