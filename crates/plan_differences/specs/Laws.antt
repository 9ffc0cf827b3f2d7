-- What the definitions say of broken pairs.
use Rattle.std.specs.Prelude.{◌≡◌}
use Rattle.problem_data.specs.declared.problem.Problem.{Problem}
use Rattle.routing_model.specs.Routes.{Routes}
use Rattle.genetic_model.specs.BrokenPairs.{broken_pairs}

-- two plans differ in the same number, whichever comes first
abbrev pub BrokenPairsAreMutual : Type 0
BrokenPairsAreMutual = (p : Problem) (a b : Routes) → broken_pairs p a b ≡ broken_pairs p b a
