-- The best feasible plan so far with its cost, and what a search finds.
use Rattle.std.specs.Prelude.{ℕ, ◌&&◌, nat_lt, if◌then◌else◌, Bool, true, Option, Some, None, ◌≡◌, IfSome, IsTrue}
use Rattle.problem_data.specs.declared.problem.Problem.{Problem}
use Rattle.routing_model.specs.declared.weights.Weights.{Weights}
use Rattle.routing_model.specs.Cost.{solution_cost}
use Rattle.routing_model.specs.Feasible.{is_feasible}
use Rattle.routing_model.specs.Routes.{Routes}

-- a plan and what it costs
pub record Best : Type 0 where
  pub routes : Routes
  pub cost : ℕ

-- whether a cost is less than the best one, or there is none
abbrev pub is_below_best : ℕ → Option Best → Bool
is_below_best cost None = true
is_below_best cost (Some best) = nat_lt cost best.cost

-- whether a plan becomes the best: it is feasible, and costs less
abbrev pub improves : Problem → Weights → Routes → Option Best → Bool
improves p w routes best = is_feasible p routes && is_below_best (solution_cost p w routes) best

-- the best after a plan was found
abbrev pub best_after : Problem → Weights → Routes → Option Best → Option Best
best_after p w routes best = if improves p w routes best then Some (record { routes = routes; cost = solution_cost p w routes }) else best

-- the best, if there is one, is feasible, and its cost is what it costs by all weights
abbrev pub IsFeasibleBest : Problem → Option Best → Type 0
IsFeasibleBest p best = IfSome best (λ (b : Best). IsTrue (is_feasible p b.routes) × ((w : Weights) → b.cost ≡ solution_cost p w b.routes))

-- what a search finds: the best plan, if any, and how many iterations it did
pub record Found : Type 0 where
  pub best : Option Best
  pub iterations : ℕ
