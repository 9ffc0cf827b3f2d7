use Rattle.population.proofs.plans.Population.new.Goals as goal

pub returns-clause-kept : goal.returns-clause-kept
returns-clause-kept c = λ p. record { feasible = c.new.ensures.kept p; infeasible = c.new-2.ensures.kept p }
