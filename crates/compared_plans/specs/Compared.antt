-- Lists of plans that are compared with one another.
use Rattle.std.specs.Prelude.{◌≡◌, ℕ, ◌<◌, IsTrue, List, length, map, slice_index_or}
use Rattle.problem_data.specs.declared.problem.Problem.{Problem}
use Rattle.routing_model.specs.Lawful.{is_lawful}
use Rattle.routing_model.specs.Routes.{Routes}
use Rattle.genetic_model.specs.Fitness.{nearest}
use Rattle.plan_differences.specs.Beside.{AreFlanks}
use Rattle.compared_plans.specs.declared.item.ComparedPlan.{ComparedPlan}
use Rattle.compared_plans.specs.declared.list.ComparedPlans.{ComparedPlans}

-- the plans of items
abbrev pub plans_in : List ComparedPlan → List Routes
plans_in items = map (λ (item : ComparedPlan). item.plan.routes) items

-- the items of a list
abbrev pub items_of : ComparedPlans → List ComparedPlan
items_of list = list.items.items

-- the plans of a list
abbrev pub plans_of : ComparedPlans → List Routes
plans_of list = plans_in (items_of list)

-- an item's plan is lawful in a problem, it keeps what stands beside its clients, and these are its numbers
pub record IsComparedPlan (p : Problem) (numbers : List ℕ) (item : ComparedPlan) : Type 0 where
  pub lawful : IsTrue (is_lawful p item.plan.routes)
  pub beside : AreFlanks p item.plan.routes item.flanks.items
  pub numbered : item.near ≡ numbers

-- so is each item, with the numbers of its place
pub record AreComparedBy (p : Problem) (numbers : ℕ → List ℕ) (items : List ComparedPlan) : Type 0 where
  pub each : (k : ℕ) (d : ComparedPlan) → k < length items → IsComparedPlan p (numbers k) (slice_index_or items k d)

-- what a list keeps is right of a problem: each plan's numbers are those of its broken pairs with each other one, ascending
abbrev pub AreCompared : Problem → ComparedPlans → Type 0
AreCompared p list = AreComparedBy p (nearest p (plans_of list)) (items_of list)
