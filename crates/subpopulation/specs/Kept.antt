-- What a list of a population keeps.
use Rattle.std.specs.Prelude.{◌≡◌, ℕ, ◌<◌, All, List, length, slice_index_or}
use Rattle.problem_data.specs.declared.problem.Problem.{Problem}
use Rattle.routing_model.specs.Routes.{Routes}
use Rattle.genetic_model.specs.Fitness.{item_at}
use Rattle.compared_plans.specs.Compared.{AreCompared, items_of, plans_of as compared_in}
use Rattle.plan_fitness.specs.declared.weighing.PlanCost.{PlanCost}
use Rattle.plan_fitness.specs.PlanCosts.{IsCostInRange, IsPlanCost}
use Rattle.subpopulation.specs.declared.list.Subpopulation.{Subpopulation}

-- the plans of a list
abbrev pub plans_of : Subpopulation → List Routes
plans_of list = compared_in list.plans

-- what each of some plans costs
pub record AreCosts (p : Problem) (plans : List Routes) (costs : List PlanCost) : Type 0 where
  pub as_many : length costs ≡ length plans
  pub each : (k : ℕ) (d : PlanCost) → k < length costs → IsPlanCost p (item_at plans k) (slice_index_or costs k d)

-- what a list keeps is right of a problem: its plans are lawful there and compared with one another, and they cost what is said
pub record IsKept (p : Problem) (list : Subpopulation) : Type 0 where
  pub compared : AreCompared p list.plans
  pub costs : AreCosts p (plans_of list) list.costs.items

-- there is a cost of each plan, in its range
pub record CanBeWeighed (list : Subpopulation) : Type 0 where
  pub as_many : length list.costs.items ≡ length (plans_of list)
  pub in_range : All IsCostInRange list.costs.items

-- both keep the same
pub record IsUnchanged (list other : Subpopulation) : Type 0 where
  pub plans : items_of other.plans ≡ items_of list.plans
  pub costs : other.costs.items ≡ list.costs.items
