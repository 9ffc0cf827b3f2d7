-- The second parent.
use Rattle.std.specs.Prelude.{◌≡◌, ℕ, List}
use Rattle.problem_data.specs.declared.problem.Problem.{Problem}
use Rattle.vrp_num.specs.Words.{State}
use Rattle.genetic_model.specs.Population.{Population}
use Rattle.genetic_model.specs.Selection.{Score, second_parent}

-- this is the second parent beside the first by a tournament and so many more, and the generator is then in that state
pub record IsSecondParent (p : Problem) (population : Population) (all : List Score) (first more : ℕ) (before : State) (second : ℕ) (now : State) : Type 0 where
  pub place : second ≡ (second_parent p population all first more before).value
  pub state : now ≡ (second_parent p population all first more before).state
