-- What a search found, and what it stands for.
use Rattle.std.specs.Prelude.{◌≡◌, option_map, pos}
use Rattle.problem_data.specs.declared.problem.Solution.{Solution}
use Rattle.routing_model.specs.Best as model
use Rattle.genetic.specs.declared.found.Found.{Found}

-- the best plan with its cost, if any, and the iterations are those that the definitions find
pub record IsFoundAs (known : model.Found) (found : Found) : Type 0 where
  pub best : option_map (λ (solution : Solution). solution.routes) found.best ≡ option_map (λ (best : model.Best). best.routes) known.best
  pub cost : found.cost ≡ option_map (λ (best : model.Best). pos best.cost) known.best
  pub iterations : found.iterations ≡ known.iterations
