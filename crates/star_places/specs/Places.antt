-- The best places of a list, by numbers: f tells how much farther it is with a client at each of n places.
use Rattle.std.specs.Prelude.{◌≡◌, ◌≢◌, ℕ, ◌+◌, ◌-◌, ◌^◌, ◌<◌, ◌≤◌, ℤ, pos, ◌<ℤ◌, ◌≤ℤ◌}
use Rattle.star_places.specs.declared.spot.Spot.{Spot}
use Rattle.star_places.specs.declared.places.ThreePlaces.{ThreePlaces}

-- farther than any place, and the place that is none
abbrev pub far : ℤ
far = pos (2 ^ 40)

abbrev pub nowhere : ℕ
nowhere = 2 ^ 32 - 1

-- one of the places with its growth, or none
pub record IsSpot (f : ℕ → ℤ) (n : ℕ) (spot : Spot) : Type 0 where
  pub most : spot.growth ≤ℤ far
  pub there : spot.growth <ℤ far → spot.place < n
  pub is : (k : ℕ) → spot.growth <ℤ far → k ≡ spot.place → spot.growth ≡ f k
  pub none : far ≤ℤ spot.growth → spot.place ≡ nowhere

-- a spot comes before another one: it has less growth, or the same, and then its place is the earlier
pub record Precedes (a b : Spot) : Type 0 where
  pub level : a.growth ≤ℤ b.growth
  pub tie : b.growth ≤ℤ a.growth → b.growth <ℤ far → a.place < b.place

-- a spot comes before a place
pub record IsBefore (f : ℕ → ℤ) (spot : Spot) (k : ℕ) : Type 0 where
  pub level : spot.growth ≤ℤ f k
  pub tie : f k ≤ℤ spot.growth → spot.place < k

-- the three best places: all other places come behind them
pub record AreThree (f : ℕ → ℤ) (n : ℕ) (three : ThreePlaces) : Type 0 where
  pub first : IsSpot f n three.first
  pub second : IsSpot f n three.second
  pub third : IsSpot f n three.third
  pub first_second : Precedes three.first three.second
  pub second_third : Precedes three.second three.third
  pub others : (k : ℕ) → k < n → k ≢ three.first.place → k ≢ three.second.place → k ≢ three.third.place → IsBefore f three.third k

-- the best of the places that aren't beside the visit at a position, or none
pub record IsBestApart (f : ℕ → ℤ) (n position : ℕ) (spot : Spot) : Type 0 where
  pub spot_is : IsSpot f n spot
  pub apart : spot.growth <ℤ far → spot.place ≢ position
  pub apart_behind : spot.growth <ℤ far → spot.place ≢ position + 1
  pub least : (k : ℕ) → k < n → k ≢ position → k ≢ position + 1 → spot.growth ≤ℤ f k
  pub earliest : (k : ℕ) → k < n → k ≢ position → k ≢ position + 1 → f k ≤ℤ spot.growth → spot.place ≤ k

-- the place of the least growth among the first n, and of those the first
pub record IsLeastPlace (f : ℕ → ℤ) (n : ℕ) (place : ℕ) : Type 0 where
  pub inside : place < n
  pub least : (k : ℕ) → k < n → f place ≤ℤ f k
  pub earliest : (k : ℕ) → k < n → f k ≤ℤ f place → place ≤ k

-- with its growth
pub record IsLeastSpot (f : ℕ → ℤ) (n : ℕ) (spot : Spot) : Type 0 where
  pub place : IsLeastPlace f n spot.place
  pub growth : spot.growth ≡ f spot.place
