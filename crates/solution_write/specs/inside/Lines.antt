-- The used vehicles among those of one type.
use Rattle.std.specs.Prelude.{ℕ, List, map, filter}
use Rattle.problem_data.specs.declared.visit.Visit.{Visit}
use Rattle.routing_model.specs.Routes.{Routes, is_used}

-- the lists of the used vehicles, in order, each with the number of the type that they all have
abbrev pub used_of_type : ℕ → Routes → List (ℕ × List Visit)
used_of_type type routes = map (λ visits. (type, visits)) (filter is_used routes)
