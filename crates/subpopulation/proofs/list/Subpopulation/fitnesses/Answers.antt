use Rattle.std.proofs.Common.{◌∙◌}
use Rattle.subpopulation.specs.Kept.{plans_of}
use Rattle.subpopulation.proofs.list.Subpopulation.fitnesses.Goals as goal

pub returns : goal.returns
returns c = λ p is.
    c.fitnesses.ensures.plans p c.args.weights (plans_of c.args.self.now) (c.as_slice.ensures.value ∙ c.costs_by-costs.ensures.costs p is) (c.as_slice-2.ensures.value ∙ c.diversities-diversities.ensures.diversities p is)
