-- Examples, each closed by computation.
use Rattle.std.specs.Prelude.{◌≡◌, ℕ, List, [], ◌∷◌, refl, map}
use Rattle.problem_data.specs.declared.visit.Visit.{Visit}
use Rattle.problem_data.specs.declared.visit.Visit.TheVariants.{Client}
use Rattle.vrp_num.specs.Words.{seeded, state_after, words}
use Rattle.routing_model.proofs.Examples.{three}
use Rattle.random_model.specs.Draws.{client_order}
use Rattle.random_model.specs.RandomSolution.{random_solution}

abbrev visits : List ℕ → List Visit
visits places = map Client places

pub first_order : (client_order three (seeded 1)).value ≡ 2 ∷ 1 ∷ 3 ∷ []
unfolding words
first_order = refl

pub next_order : (client_order three (state_after 3 (seeded 1))).value ≡ 2 ∷ 1 ∷ 3 ∷ []
unfolding words state_after
next_order = refl

pub first_solution : (random_solution three (seeded 1)).value ≡ visits (2 ∷ []) ∷ visits (1 ∷ []) ∷ visits (3 ∷ []) ∷ []
unfolding words
first_solution = refl
