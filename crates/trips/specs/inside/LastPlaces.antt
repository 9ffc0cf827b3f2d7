-- Where a list's last visit is.
use Rattle.std.specs.Prelude.{ℕ, List, [], ◌∷◌}
use Rattle.problem_data.specs.declared.visit.Visit.{Visit}
use Rattle.problem_data.specs.Visits.{place_of}

-- the place of the last visit, or the given place where there is none
abbrev pub place_behind : ℕ → List Visit → ℕ
place_behind place [] = place
place_behind place (visit ∷ rest) = place_behind (place_of visit) rest
