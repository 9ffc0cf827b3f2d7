-- The swap of the best pair of clients of two vehicles, and the new lists that it makes.
use Rattle.std.specs.Prelude.{◌≡◌, ℕ, ◌+◌, ◌&&◌, nat_lt, Bool, true, if◌then◌else◌}
use Rattle.problem_data.specs.declared.problem.Problem.{Problem}
use Rattle.routing_model.specs.Routes.{Routes, list_at}
use Rattle.search_model.specs.declared.candidate.Candidate.{Candidate}
use Rattle.search_model.specs.declared.candidate.Candidate.TheVariants.{Routes as Two}
use Rattle.search_model.specs.declared.kind.Kind.TheVariants.{SwapStar}
use Rattle.search_model.specs.RouteMoves.{are_two_vehicles, is_one_trip}
use Rattle.gain_model.specs.declared.part.Part.TheVariants.{Client, Run}
use Rattle.move_core.specs.Searches.{SearchState}
use Rattle.new_lists.specs.declared.new_list.NewList.{NewList}
use Rattle.new_lists.specs.declared.new_list.NewLists.{NewLists}
use Rattle.new_lists.specs.declared.new_list.NewLists.TheVariants as lists
use Rattle.new_lists.specs.Views.{route_at}
use Rattle.star_pairs.specs.declared.pair.Pair.{Pair}
use Rattle.star_pairs.specs.declared.pair.Turn.{Turn}
use Rattle.star_pairs.specs.BestPairs.{IsBestPair}

-- the candidate
abbrev pub star_candidate : ℕ → ℕ → Candidate
star_candidate first second = Two SwapStar first second

-- whether two numbers are of different used vehicles whose lists have no reload
abbrev pub may_star : Problem → Routes → ℕ → ℕ → Bool
may_star p routes first second = are_two_vehicles p first second && is_one_trip (list_at routes first) && is_one_trip (list_at routes second)

-- they are such vehicles, and the pair is the best one
pub record IsStarPair (s : SearchState) (first second : ℕ) (pair : Pair) : Type 0 where
  pub may : may_star s.problem s.routes first second ≡ true
  pub best : IsBestPair (route_at s first) (route_at s second) pair

-- a vehicle's list without the visit at a turn's position and with a client at its place, which is before that visit or behind it
abbrev pub turned_by : Bool → ℕ → ℕ → Turn → NewList
turned_by before vehicle client turn = record {
  vehicle = vehicle;
  left = if before then turn.place else turn.goes;
  one = if before then Client client else Run vehicle (turn.goes + 1) (turn.place + 1);
  two = if before then Run vehicle turn.place turn.goes else Client client;
  three = Run vehicle 0 0;
  right = if before then turn.goes + 1 else turn.place + 1;
}

abbrev pub turned_list : ℕ → ℕ → Turn → NewList
turned_list vehicle client turn = turned_by (nat_lt turn.place turn.goes) vehicle client turn

-- the lists that a pair makes
abbrev pub star_lists : ℕ → ℕ → Pair → NewLists
star_lists first second pair = lists.Two (turned_list first pair.v pair.first) (turned_list second pair.u pair.second)
