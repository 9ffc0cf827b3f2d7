-- Marking visits.
use Rattle.std.specs.Prelude.{Bool, true, List, slice_set}
use Rattle.problem_data.specs.declared.visit.Visit.{Visit}
use Rattle.problem_data.specs.declared.visit.Visit.TheVariants.{Client, Reload}

-- with the client of a visit marked, if it is one
abbrev pub marked : List Bool → Visit → List Bool
marked marks (Client place) = slice_set marks place true
marked marks (Reload depot) = marks
