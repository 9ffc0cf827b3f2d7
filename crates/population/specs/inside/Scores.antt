-- Scores of a list's items.
use Rattle.std.specs.Prelude.{ℕ, List, length, map}
use Rattle.genetic_model.specs.Selection.{Score}

-- those of a list whose items have these fitnesses
abbrev pub scored : List ℕ → List Score
scored fitnesses = map (λ f. record { fitness = f; size = length fitnesses }) fitnesses
