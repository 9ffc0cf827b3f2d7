use Rattle.std.proofs.Common.{arith}
use Rattle.std.proofs.Math.Seq.{map-set_same}
use Rattle.move_core.specs.declared.tally.Tally.{Tally}
use Rattle.local_search.proofs.Kits.{count_kept, count_rose}
use Rattle.local_search.proofs.kit.evaluate_at.Goals as goal

pub returns-clause-kinds : goal.returns-clause-kinds
returns-clause-kinds g c = grind (arith, map-set_same)

pub returns-clause-tried : goal.returns-clause-tried
returns-clause-tried g c =
    count_rose (λ b. (goal.Operator-dyn g (b.vtable, b.value)).tally_of b.value) (λ (t : Tally). t.tried) c.args.kit.now c.args.at c.evaluate_one.new.op c.index-kit-at.result c.requires.at c.evaluate_one.ensures.tried

pub returns-clause-applied : goal.returns-clause-applied
returns-clause-applied g c =
    count_kept (λ b. (goal.Operator-dyn g (b.vtable, b.value)).tally_of b.value) (λ (t : Tally). t.applied) c.args.kit.now c.args.at c.evaluate_one.new.op c.index-kit-at.result c.requires.at c.evaluate_one.ensures.applied
