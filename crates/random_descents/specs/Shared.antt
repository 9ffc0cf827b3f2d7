-- What the descents of a run share.
use Rattle.problem_data.specs.declared.problem.Problem.{Problem}
use Rattle.genetic_model.specs.declared.params.NeighbourhoodParams.{NeighbourhoodParams}

-- the problem, and by which parameters clients are neighbours
pub record Shared : Type 0 where
  pub problem : Problem
  pub params : NeighbourhoodParams
