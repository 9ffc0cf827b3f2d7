-- Vehicle types of which an unused vehicle was met.
use Rattle.std.specs.Prelude.{◌≡◌, ℕ, ◌<◌, ◌==◌, ◌&&◌, not, Bool, false, List, length, slice_index_or}
use Rattle.std.specs.List.{list_any, range_with_len}
use Rattle.problem_data.specs.declared.problem.Problem.{Problem}
use Rattle.problem_data.specs.Places.{type_of}
use Rattle.routing_model.specs.Routes.{Routes, is_used, list_at}

-- whether a vehicle is of a type and unused
abbrev pub is_unused_of : Problem → Routes → ℕ → ℕ → Bool
is_unused_of p routes type vehicle = (type_of p vehicle == type) && not (is_used (list_at routes vehicle))

-- just the types are marked of which one of the first k vehicles is unused
abbrev pub AreMet : Problem → Routes → ℕ → List Bool → Type 0
AreMet p routes k met = (type : ℕ) → type < length met → slice_index_or met type false ≡ list_any (is_unused_of p routes type) (range_with_len 0 k)
