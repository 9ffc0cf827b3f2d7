-- What is kept beside a problem, so that each of its look-ups takes constant time.
use Rattle.std.specs.Prelude.{◌≡◌, ℕ, List, map, if◌then◌else◌}
use Rattle.std.specs.List.{range_with_len}
use Rattle.problem_data.specs.declared.problem.Problem.{Problem}
use Rattle.problem_data.specs.declared.visit.Visit.{Visit}
use Rattle.problem_data.specs.declared.visit.Visit.TheVariants.{Client, Reload}
use Rattle.problem_data.specs.Places.{place_count, is_client_place, types_of_vehicles}
use Rattle.problem_data.specs.Valid.{IsValid}

-- the visit of a place: its client's, or a reload at its depot
abbrev pub visit_at : Problem → ℕ → Visit
visit_at p place = if is_client_place p place then Client place else Reload place

-- the visit of each place, in order
abbrev pub visits_of_places : Problem → List Visit
visits_of_places p = map (visit_at p) (range_with_len 0 (place_count p))

-- the problem is valid, and the tables are its own
pub record HasTables (p : Problem) (type_table : List ℕ) (visit_table : List Visit) : Type 0 where
  pub valid : IsValid p
  pub types : type_table ≡ types_of_vehicles p
  pub visits : visit_table ≡ visits_of_places p
