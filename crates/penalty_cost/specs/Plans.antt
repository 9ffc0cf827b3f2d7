-- The conditions on plans and weights.
use Rattle.std.specs.Prelude.{◌≡◌, ℕ, ◌^◌, ◌≤◌, All, IsTrue, length}
use Rattle.problem_data.specs.declared.problem.Problem.{Problem}
use Rattle.problem_data.specs.Places.{vehicle_count}
use Rattle.routing_model.specs.declared.weights.Weights.{Weights}
use Rattle.routing_model.specs.Lawful.{visits_at_most_once}
use Rattle.routing_model.specs.Listed.{IsListed}
use Rattle.routing_model.specs.Routes.{Routes}

-- a plan can be costed: there is one list for each vehicle, each is one that a vehicle can have, and no client stands twice
pub record IsDrivablePlan (p : Problem) (routes : Routes) : Type 0 where
  pub one_list_each : length routes ≡ vehicle_count p
  pub listed : All (IsListed p) routes
  pub at_most_once : IsTrue (visits_at_most_once p routes)

-- of a weight
abbrev pub largest_weight : ℕ
largest_weight = 10 ^ 9

-- each weight is within its limit
pub record IsWeighed (w : Weights) : Type 0 where
  pub load : w.load ≤ largest_weight
  pub warp : w.warp ≤ largest_weight
  pub distance : w.distance ≤ largest_weight
