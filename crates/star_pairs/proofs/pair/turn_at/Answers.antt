use Rattle.std.proofs.Common.{◌≡◌, refl, arith, w64, ℤ, ◌-ℤ◌, to_z, of_z}
use Rattle.std.proofs.lemmas.Int.{ints}
use Rattle.star_places.specs.Growths.{IsSmall}
use Rattle.star_pairs.proofs.pair.turn_at.Goals as goal

-- one small number less another one
less : (f g x y : ℤ) → IsSmall f → IsSmall g → f ≡ x → g ≡ y → to_z w64 (of_z w64 (to_z w64 (of_z w64 f) -ℤ to_z w64 (of_z w64 g))) ≡ x -ℤ y
less f g x y a b k l = omega (arith, ints, a.low, a.high, b.low, b.high)

pub returns-clause-turn : goal.returns-clause-turn
returns-clause-turn c = record {
  goes_is = refl;
  best = c.best_without-spot.ensures.least.place;
  change_is = less c.best_without-spot.result.growth c.gone.result _ _ c.best_without-spot.ensures.small c.gone.ensures.small c.best_without-spot.ensures.least.growth c.gone.ensures.gone;
}

pub returns-clause-small : goal.returns-clause-small
returns-clause-small c =
    let a = c.best_without-spot.ensures.small in
    let b = c.gone.ensures.small in
    record { low = omega (arith, ints, a.low, a.high, b.low, b.high); high = omega (arith, ints, a.low, a.high, b.low, b.high) }
