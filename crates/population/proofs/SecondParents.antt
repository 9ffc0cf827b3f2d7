-- The second parent, one tournament at a time.
use Rattle.std.proofs.Common.{◌≡◌, refl, ℕ, suc, true, false, List}
use Rattle.problem_data.specs.declared.problem.Problem.{Problem}
use Rattle.vrp_num.specs.Words.{State}
use Rattle.genetic_model.specs.Population.{Population}
use Rattle.genetic_model.specs.Selection.{Score, is_diverse, second_parent, tournament}

module _ (p : Problem) (population : Population) (all : List Score) (i m : ℕ) (s : State) where
  -- the winner is diverse enough
  pub taken : is_diverse p population i (tournament all s).value ≡ true → second_parent p population all i (suc m) s ≡ tournament all s
  taken h = rw h refl

  -- it isn't, and more tournaments are held
  pub passed_over : is_diverse p population i (tournament all s).value ≡ false → second_parent p population all i (suc m) s ≡ second_parent p population all i m (tournament all s).state
  passed_over h = rw h refl
