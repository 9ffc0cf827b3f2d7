-- What a plan costs by any weights.
use Rattle.std.specs.Prelude.{◌≡◌, ℕ, ◌+◌, ◌*◌, ◌^◌, ◌<◌, pos, ◌≤ℤ◌}
use Rattle.problem_data.specs.declared.problem.Problem.{Problem}
use Rattle.routing_model.specs.declared.weights.Weights.{Weights}
use Rattle.routing_model.specs.Cost.{solution_cost}
use Rattle.routing_model.specs.Feasible.{assessment, total_excess_distance, total_excess_load, total_excess_time}
use Rattle.routing_model.specs.Routes.{Routes}
use Rattle.plan_fitness.specs.declared.weighing.PlanCost.{PlanCost}

-- no weight
abbrev pub weightless : Weights
weightless = record { load = 0; warp = 0; distance = 0 }

-- the weighted excesses of a plan together
abbrev pub weighed_excess : Problem → Weights → Routes → ℕ
weighed_excess p w routes =
    w.load * total_excess_load p routes + w.warp * total_excess_time p routes + w.distance * total_excess_distance p routes

-- a cost within its range, and no excess below 0
pub record IsCostInRange (c : PlanCost) : Type 0 where
  pub cost : c.cost < 2 ^ 127
  pub load : pos 0 ≤ℤ c.excess.load
  pub warp : pos 0 ≤ℤ c.excess.warp
  pub distance : pos 0 ≤ℤ c.excess.distance

-- what a plan costs but for its excesses, and what it exceeds
pub record IsPlanCost (p : Problem) (routes : Routes) (c : PlanCost) : Type 0 where
  pub weighed : (w : Weights) → solution_cost p w routes ≡ c.cost + weighed_excess p w routes
  pub excess : c.excess ≡ assessment p routes
  pub in_range : IsCostInRange c
