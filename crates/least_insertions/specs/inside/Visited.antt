-- Which clients a plan visits, as a mark for each place.
use Rattle.std.specs.Prelude.{◌≡◌, ℕ, ◌<◌, Bool, false, List, length, slice_index_or}
use Rattle.routing_model.specs.Routes.{Routes, is_visited}

-- just the places of the visited clients are marked
abbrev pub AreVisited : List Bool → Routes → Type 0
AreVisited marks routes = (c : ℕ) → c < length marks → slice_index_or marks c false ≡ is_visited routes c
