-- Pairs of a client of one list and a client of another one that change lists, which of them comes first, and the best of some.
use Rattle.std.specs.Prelude.{◌≡◌, ℕ, ◌+◌, ◌<◌, ◌≤◌, ◌^◌, ℤ, pos, ◌+ℤ◌, ◌-ℤ◌, ◌≤ℤ◌, List, length, slice_index_or}
use Rattle.route_cache.specs.Routes.{RouteState}
use Rattle.star_pairs.specs.declared.pair.Pair.{Pair}
use Rattle.star_pairs.specs.declared.pair.Turn.{Turn}
use Rattle.star_places.specs.declared.places.ThreePlaces.{ThreePlaces}
use Rattle.star_places.specs.Growths.{gone_of, growth_of, growth_without, place_of}
use Rattle.star_places.specs.Places.{AreThree, IsLeastPlace}

-- how much farther a vehicle drives where the visit at a position goes and a client comes to a place of what is left
abbrev pub turn_change : RouteState → ℕ → ℕ → ℕ → ℤ
turn_change route goes client place = growth_without route goes client place -ℤ gone_of route goes

-- as short as four legs
pub record IsShort (change : ℤ) : Type 0 where
  pub low : pos 0 ≤ℤ (change +ℤ pos (2 ^ 34))
  pub high : change ≤ℤ pos (2 ^ 34)

-- the visit at a position goes, and a client comes to the best place of the list without it
pub record IsTurn (route : RouteState) (goes client : ℕ) (turn : Turn) : Type 0 where
  pub goes_is : turn.goes ≡ goes
  pub best : IsLeastPlace (growth_without route goes client) (length route.visits) turn.place
  pub change_is : turn.change ≡ turn_change route goes client turn.place

-- the pair of the clients at two positions
pub record IsPairAt (a b : RouteState) (u_at v_at : ℕ) (pair : Pair) : Type 0 where
  pub u_is : pair.u ≡ place_of a (u_at + 1)
  pub v_is : pair.v ≡ place_of b (v_at + 1)
  pub first_turn : IsTurn a u_at (place_of b (v_at + 1)) pair.first
  pub second_turn : IsTurn b v_at (place_of a (u_at + 1)) pair.second
  pub change_is : pair.change ≡ pair.first.change +ℤ pair.second.change

-- a pair comes no later than another one
pub record Leads (pair other : Pair) : Type 0 where
  pub level : pair.change ≤ℤ other.change
  pub by_u : other.change ≤ℤ pair.change → pair.u ≤ other.u
  pub by_v : other.change ≤ℤ pair.change → pair.u ≡ other.u → pair.v ≤ other.v

-- a pair of the two lists that comes no later than those of the first clients of the second list with all of the first, and than those of
-- the next one with the first clients of the first list
pub record IsBestSoFar (a b : RouteState) (rows at : ℕ) (pair : Pair) : Type 0 where
  pub pair_is : IsPairAt a b pair.first.goes pair.second.goes pair
  pub u_there : pair.first.goes < length a.visits
  pub v_there : pair.second.goes < length b.visits
  pub before : (x y : ℕ) → x < length a.visits → y < rows → (other : Pair) → IsPairAt a b x y other → Leads pair other
  pub beside : (x : ℕ) → x < at → (other : Pair) → IsPairAt a b x rows other → Leads pair other

-- the best places in the second list for each of the first clients of the first list
abbrev pub AreKept : RouteState → RouteState → ℕ → List ThreePlaces → Type 0
AreKept a b n kept = (k : ℕ) (none : ThreePlaces) → k < n → AreThree (growth_of b (place_of a (k + 1))) (length b.visits + 1) (slice_index_or kept k none)
