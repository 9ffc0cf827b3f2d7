-- The visits beside a gap in a list.
use Rattle.std.specs.Prelude.{ℕ, zero, suc, List, Option, None, slice_get}
use Rattle.problem_data.specs.declared.visit.Visit.{Visit}

-- the visit before a position, if there is one
abbrev pub visit_before : List Visit → ℕ → Option Visit
visit_before visits zero = None
visit_before visits (suc position) = slice_get visits position
