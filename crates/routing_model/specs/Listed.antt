-- Lists that a vehicle can have, and the types of vehicles.
use Rattle.std.specs.Prelude.{ℕ, ◌≤◌, List, length, IsTrue}
use Rattle.std.specs.List.{list_all}
use Rattle.problem_data.specs.declared.problem.Problem.{Problem}
use Rattle.problem_data.specs.declared.problem.VehicleType.{VehicleType}
use Rattle.problem_data.specs.declared.visit.Visit.{Visit}
use Rattle.problem_data.specs.Limits.{most_visits}
use Rattle.problem_data.specs.Places.{type_at, type_of}
use Rattle.routing_model.specs.Lawful.{names_place}
use Rattle.routing_model.specs.Tidy.{is_tidy}

-- a list that a vehicle can have: tidy, of places that are there, and not too long
pub record IsListed (p : Problem) (visits : List Visit) : Type 0 where
  pub tidy : IsTrue (is_tidy visits)
  pub named : IsTrue (list_all (names_place p) visits)
  pub few : length visits ≤ most_visits

-- the type of a vehicle
abbrev pub type_of_vehicle : Problem → ℕ → VehicleType
type_of_vehicle p vehicle = type_at p (type_of p vehicle)
