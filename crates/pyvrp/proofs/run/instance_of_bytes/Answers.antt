use Rattle.std.proofs.Common.{◌∙◌}
use Rattle.pyvrp.proofs.SolvedOutcomes.{comes-of-first}
use Rattle.pyvrp.proofs.run.instance_of_bytes.Goals as goal

pub returns-in-Solved-clause-comes : goal.returns-in-Solved-clause-comes
returns-in-Solved-clause-comes g c = comes-of-first _ _ c.args.options.now c.args.bytes.now c.in-Solved.answer c.args.kits.now.items c.truncate.new.self.items
    c.replace-kit.result _ _ c.in-Solved.kit c.requires.some (c.replace-kit.ensures.value ∙ c.index_mut.ensures.value) c.in-Solved.ensures c.truncate.ensures.items
