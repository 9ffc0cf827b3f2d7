use Rattle.population.proofs.plans.Population.clear.Goals as goal

pub returns-clause-kept : goal.returns-clause-kept
returns-clause-kept c = λ p. record { feasible = c.clear.ensures.kept p; infeasible = c.clear-2.ensures.kept p }
