-- Visits and lists of them.
use Rattle.std.specs.Prelude.{ℕ, Bool, true, false, List}
use Rattle.std.specs.List.{list_any}
use Rattle.problem_data.specs.declared.visit.Visit.{Visit}
use Rattle.problem_data.specs.declared.visit.Visit.TheVariants.{Client, Reload}

-- the place of a visit
abbrev pub place_of : Visit → ℕ
place_of (Client place) = place
place_of (Reload depot) = depot

-- whether a visit is a client
abbrev pub is_client : Visit → Bool
is_client (Client place) = true
is_client (Reload depot) = false

-- a vehicle is used where its list has a client
abbrev pub is_used : List Visit → Bool
is_used visits = list_any is_client visits
