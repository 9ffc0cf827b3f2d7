-- A population as the definitions see it, and what it keeps.
use Rattle.std.specs.Prelude.{◌≡◌, ℕ}
use Rattle.problem_data.specs.declared.problem.Problem.{Problem}
use Rattle.vrp_num.specs.Words.{State}
use Rattle.routing_model.specs.declared.weights.Weights.{Weights}
use Rattle.genetic_model.specs.Population.{Population as PopulationOf}
use Rattle.genetic_model.specs.Selection.{selected}
use Rattle.subpopulation.specs.Kept.{IsKept, IsUnchanged as IsUnchangedList, plans_of}
use Rattle.population.specs.declared.plans.Population.{Population}

-- what a population holds
abbrev pub population_of : Population → PopulationOf
population_of population = record {
  params = population.params;
  feasible = plans_of population.feasible;
  infeasible = plans_of population.infeasible;
  best = population.best;
}

-- what both lists of a population keep is right of a problem: their plans are lawful there, and so on
pub record IsKeptIn (p : Problem) (population : Population) : Type 0 where
  pub feasible : IsKept p population.feasible
  pub infeasible : IsKept p population.infeasible

-- both hold and keep the same
pub record IsUnchanged (before now : Population) : Type 0 where
  pub holds_the_same : population_of now ≡ population_of before
  pub feasible : IsUnchangedList before.feasible now.feasible
  pub infeasible : IsUnchangedList before.infeasible now.infeasible

-- these parents are selected, and the generator is then in that state
pub record AreSelected (p : Problem) (w : Weights) (population : PopulationOf) (before : State) (numbers : ℕ × ℕ) (now : State) : Type 0 where
  pub parents : numbers ≡ (selected p w population before).value
  pub state : now ≡ (selected p w population before).state
