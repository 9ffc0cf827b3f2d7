-- Whose lists are put in.
use Rattle.std.specs.Prelude.{ℕ, ◌==◌, Option, List, find, option_map, zip}

-- the one of the second list's numbers that stands where the first list has v first
abbrev pub giver_in : List ℕ → List ℕ → ℕ → Option ℕ
giver_in into from v = option_map (λ (pair : ℕ × ℕ). pair.1) (find (λ (pair : ℕ × ℕ). pair.0 == v) (zip into from))
