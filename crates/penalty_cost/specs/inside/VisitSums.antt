-- Sums over the visits of a plan.
use Rattle.std.specs.Prelude.{ℕ, List, sum_by}
use Rattle.problem_data.specs.declared.problem.Problem.{Problem}
use Rattle.problem_data.specs.declared.visit.Visit.{Visit}
use Rattle.problem_data.specs.declared.visit.Visit.TheVariants.{Client, Reload}
use Rattle.problem_data.specs.Places.{client_at}
use Rattle.routing_model.specs.Routes.{Routes}

-- what a visit adds to a sum over clients
abbrev pub at_visit : (ℕ → ℕ) → Visit → ℕ
at_visit g (Client place) = g place
at_visit g (Reload depot) = 0

-- what the visits of a list add
abbrev pub at_visits : (ℕ → ℕ) → List Visit → ℕ
at_visits g visits = sum_by (at_visit g) visits

-- what all visits add
abbrev pub at_plan : (ℕ → ℕ) → Routes → ℕ
at_plan g routes = sum_by (at_visits g) routes

-- the prize of a client
abbrev pub prize_at : Problem → ℕ → ℕ
prize_at p place = (client_at p place).prize
