-- The best pair of a client of one list and a client of another one that change lists.
use Rattle.std.specs.Prelude.{◌≡◌, ℕ, ◌<◌, pos, ◌+ℤ◌, ◌-ℤ◌, List, length, insert, slice_index, Some}
use Rattle.problem_data.specs.declared.problem.Problem.{Problem}
use Rattle.routing_model.specs.Listed.{type_of_vehicle}
use Rattle.search_model.specs.Edits.{visits_of}
use Rattle.search_model.specs.RouteMoves.{Swap, best_swap, omitted, tour}
use Rattle.gain_model.specs.Growths.{StandAtMostOnce}
use Rattle.route_cache.specs.Routes.{RouteState}
use Rattle.star_pairs.specs.declared.pair.Pair.{Pair}
use Rattle.star_pairs.specs.declared.pair.Turn.{Turn}

-- of a vehicle's list of clients one goes that stands at the turn's position, and another one comes to a place of what is left; so much
-- farther the vehicle drives
pub record IsTurnOf (p : Problem) (vehicle : ℕ) (us : List ℕ) (goes comes : ℕ) (turn : Turn) : Type 0 where
  pub there : turn.goes < length us
  pub client : slice_index us turn.goes ≡ goes
  pub place : turn.place < length us
  pub change : turn.change ≡ pos (tour p (type_of_vehicle p vehicle) (insert (omitted goes us) turn.place comes)) -ℤ pos (tour p (type_of_vehicle p vehicle) us)

-- what a pair makes of two lists of clients
abbrev pub swap_of : List ℕ → List ℕ → Pair → Swap
swap_of us vs pair = record { first = insert (omitted pair.u us) pair.first.place pair.v; second = insert (omitted pair.v vs) pair.second.place pair.u }

-- the pair makes the swap of the shortest two tours together of two vehicles' lists of clients
pub record MakesBestSwap (p : Problem) (a b : ℕ) (us vs : List ℕ) (pair : Pair) : Type 0 where
  pub first : IsTurnOf p a us pair.u pair.v pair.first
  pub second : IsTurnOf p b vs pair.v pair.u pair.second
  pub swaps : best_swap p (type_of_vehicle p a) us (type_of_vehicle p b) vs ≡ Some (swap_of us vs pair)
  pub change : pair.change ≡ pair.first.change +ℤ pair.second.change

-- it does so where both routes have clients alone, each at most once
abbrev pub IsBestPair : RouteState → RouteState → Pair → Type 0
IsBestPair a b pair =
    (us vs : List ℕ) → a.visits ≡ visits_of us → b.visits ≡ visits_of vs → StandAtMostOnce us → StandAtMostOnce vs →
    MakesBestSwap a.problem a.vehicle b.vehicle us vs pair
