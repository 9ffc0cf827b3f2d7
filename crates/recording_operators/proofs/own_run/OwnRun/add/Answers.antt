use Rattle.std.proofs.Common.{◌≤◌, length, subst, sym}
use Rattle.genetic_model.specs.Population.{Population, items_of}
use Rattle.population.specs.Populations.{population_of}
use Rattle.genetic.proofs.AddedPlans.{added-some}
use Rattle.recording_operators.proofs.own_run.OwnRun.add.Goals as goal

pub returns-clause-some : goal.returns-clause-some
returns-clause-some c =
    let s = c.args.self.now in
    subst (λ (x : Population). 1 ≤ length (items_of x)) (sym c.in_ok-add.ensures.ok)
    (added-some s.given.now _ _ (population_of s.population) s.population.params_in_range.min_pop_size.low)
