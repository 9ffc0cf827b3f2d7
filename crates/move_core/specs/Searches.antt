-- What a search is, and what holds of each search.
use Rattle.std.specs.Prelude.{◌≡◌, All, IsTrue, length}
use Rattle.problem_data.specs.declared.problem.Problem.{Problem}
use Rattle.problem_data.specs.Places.{vehicle_count}
use Rattle.problem_data.specs.Valid.{IsValid}
use Rattle.routing_model.specs.declared.weights.Weights.{Weights}
use Rattle.routing_model.specs.Lawful.{is_lawful}
use Rattle.routing_model.specs.Listed.{IsListed}
use Rattle.routing_model.specs.Routes.{Routes}
use Rattle.penalty_cost.specs.Plans.{IsWeighed}
pub use Rattle.plan_tables.specs.Figures.{largest_rest, rest_of}
pub use Rattle.plan_tables.specs.Tables.{some_type_reloads}

-- the present lists of a search, with its problem and weights
pub record SearchState : Type 0 where
  pub problem : Problem
  pub weights : Weights
  pub routes : Routes

-- What holds of each search: its problem is valid, its weights are within their limits, and its lists are a lawful plan, each of them
-- one that a vehicle can have.
pub record IsSound (search : SearchState) : Type 0 where
  pub valid : IsValid search.problem
  pub weighed : IsWeighed search.weights
  pub lawful : IsTrue (is_lawful search.problem search.routes)
  pub one_list_each : length search.routes ≡ vehicle_count search.problem
  pub listed : All (IsListed search.problem) search.routes
