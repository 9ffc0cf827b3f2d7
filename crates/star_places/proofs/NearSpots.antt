-- A spot at a place that is there has a growth.
use Rattle.std.proofs.Common.{◌⊎◌, inl, inr, ℕ, ◌<◌, arith, ℤ, ◌<ℤ◌, ◌≤ℤ◌}
use Rattle.std.proofs.lemmas.Int.{ints}
use Rattle.star_places.specs.declared.spot.Spot.{Spot}
use Rattle.star_places.specs.Places.{IsSpot, far, nowhere}

pub either : (a b : ℤ) → (a <ℤ b) ⊎ (b ≤ℤ a)
either a b = grind (arith, ints)

pub near-spot : (f : ℕ → ℤ) (n : ℕ) (spot : Spot) → IsSpot f n spot → spot.place < nowhere → spot.growth <ℤ far
near-spot f n spot is low = by (either spot.growth far)
  where
    by : (spot.growth <ℤ far) ⊎ (far ≤ℤ spot.growth) → spot.growth <ℤ far
    by (inl near) = near
    by (inr none) = absurd (let e = is.none none in omega (arith, e, low))
