use Rattle.std.proofs.Common.{◌≤◌, length, subst, sym}
use Rattle.genetic_model.specs.declared.params.PopulationParams.{PopulationParams}
use Rattle.genetic_model.specs.Population.{Population, items_of}
use Rattle.population.specs.Populations.{population_of}
use Rattle.genetic.proofs.AddedPlans.{added-some}
use Rattle.genetic.proofs.run.Run.admit.Goals as goal

pub returns-then-branch-clause-some : goal.returns-then-branch-clause-some
returns-then-branch-clause-some c =
    let s = c.args.self.now in
    subst (λ (x : Population). 1 ≤ length (items_of x)) (sym c.in_ok-add.ensures.ok)
    (added-some s.given.now _ _ (population_of s.population)
    (subst (λ (params : PopulationParams). 1 ≤ params.min_pop_size) (sym c.requires.running.same_sizes) c.requires.running.in_range.population.min_pop_size.low))

pub returns-else-branch-clause-some : goal.returns-else-branch-clause-some
returns-else-branch-clause-some c =
    let s = c.args.self.now in
    subst (λ (x : Population). 1 ≤ length (items_of x)) (sym c.in_ok-add.ensures.ok)
    (added-some s.given.now _ _ (population_of s.population)
    (subst (λ (params : PopulationParams). 1 ≤ params.min_pop_size) (sym c.requires.running.same_sizes) c.requires.running.in_range.population.min_pop_size.low))
