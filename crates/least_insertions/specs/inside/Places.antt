-- Places for a client that isn't visited.
use Rattle.std.specs.Prelude.{◌≡◌, ℕ, ◌<◌, ◌≤◌, true, List, insert, length, Option, IfSome, option_map, slice_set, pos, ◌+ℤ◌}
use Rattle.list_words.specs.Order.{first_least}
use Rattle.problem_data.specs.declared.problem.Problem.{Problem}
use Rattle.problem_data.specs.declared.visit.Visit.TheVariants.{Client}
use Rattle.problem_data.specs.Places.{client_at, is_client_place}
use Rattle.problem_data.specs.Valid.{IsValid}
use Rattle.routing_model.specs.declared.weights.Weights.{Weights}
use Rattle.routing_model.specs.Cost.{solution_cost}
use Rattle.routing_model.specs.Routes.{Routes, list_at}
use Rattle.genetic_model.specs.Insertion.{is_missing}
use Rattle.genetic_model.proofs.SoundChildren.{IsSound}
use Rattle.least_insertions.specs.declared.positions.Place.{Place}

-- the plan with a client at a position of a vehicle's list
abbrev pub with_client : Routes → ℕ → ℕ → ℕ → Routes
with_client routes c vehicle position = slice_set routes vehicle (insert (list_at routes vehicle) position (Client c))

-- the plan with a client at a place
abbrev pub plan_at : Routes → ℕ → Place → Routes
plan_at routes c place = with_client routes c place.vehicle place.position

-- a place is one of a vehicle's positions, and its growth is by how much more the vehicle costs with the client there
pub record IsPlace (p : Problem) (w : Weights) (routes : Routes) (c : ℕ) (place : Place) : Type 0 where
  pub vehicle : place.vehicle < length routes
  pub position : place.position ≤ length (list_at routes place.vehicle)
  pub grown : (pos (solution_cost p w (plan_at routes c place)) +ℤ pos (client_at p c).prize) ≡ (pos (solution_cost p w routes) +ℤ place.growth)

-- the first of some plans with least cost, if there is one
pub record IsBestOf (p : Problem) (w : Weights) (routes : Routes) (c : ℕ) (best : Option Place) (plans : List Routes) : Type 0 where
  pub is : option_map (plan_at routes c) best ≡ first_least (solution_cost p w) plans
  pub place : IfSome best (IsPlace p w routes c)

-- a client is missing in a plan of a valid problem that is lawful but for what is missing
pub record IsMissingIn (p : Problem) (routes : Routes) (c : ℕ) : Type 0 where
  pub valid : IsValid p
  pub sound : IsSound p routes
  pub client : is_client_place p c ≡ true
  pub missing : is_missing p routes c ≡ true
