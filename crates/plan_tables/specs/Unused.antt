-- The least vehicle of a type that has no visit.
use Rattle.std.specs.Prelude.{◌≡◌, ℕ, ◌<◌, ◌==◌, ◌&&◌, Bool, true, false, List, length, slice_index, slice_index_or, Option, Some, None}
use Rattle.problem_data.specs.declared.problem.Problem.{Problem}
use Rattle.problem_data.specs.Places.{type_of}
use Rattle.routing_model.specs.Routes.{Routes}
use Rattle.search_model.specs.Edits.{unused_vehicle}

-- whether a vehicle is of a type, and has no visit
abbrev pub is_left : Problem → List ℕ → ℕ → ℕ → Bool
is_left p sizes type vehicle = (type_of p vehicle == type) && (slice_index sizes vehicle == 0)

-- a vehicle is the least of these
pub record IsLeastLeft (p : Problem) (sizes : List ℕ) (type vehicle : ℕ) : Type 0 where
  pub inside : vehicle < length sizes
  pub left : is_left p sizes type vehicle ≡ true
  pub least : (other : ℕ) → other < vehicle → is_left p sizes type other ≡ false

abbrev pub IsLeast : Problem → List ℕ → ℕ → Option ℕ → Type 0
IsLeast p sizes type None = (other : ℕ) → other < length sizes → is_left p sizes type other ≡ false
IsLeast p sizes type (Some vehicle) = IsLeastLeft p sizes type vehicle

-- of each type
pub record AreLeast (p : Problem) (sizes : List ℕ) (unused : List (Option ℕ)) : Type 0 where
  pub count : length unused ≡ length p.types
  pub each : (type : ℕ) (none : Option ℕ) → type < length p.types → IsLeast p sizes type (slice_index_or unused type none)

-- the same by the lists of a plan: the least unused vehicle of each type
pub record AreUnused (p : Problem) (routes : Routes) (unused : List (Option ℕ)) : Type 0 where
  pub count : length unused ≡ length p.types
  pub each : (type : ℕ) (none : Option ℕ) → type < length p.types → slice_index_or unused type none ≡ unused_vehicle p routes type
