-- The three best places, and one place more behind them.
use Rattle.std.proofs.Common.{◌≡◌, ◌≢◌, ◌⊎◌, inl, inr, ℕ, ◌+◌, ◌<◌, ◌≤◌, sym, ◌∙◌, ap, arith, ℤ, ◌<ℤ◌, ◌≤ℤ◌}
use Rattle.std.proofs.lemmas.Bool.{cases_eq}
use Rattle.std.proofs.lemmas.Int.{ints}
use Rattle.star_places.specs.declared.spot.Spot.{Spot}
use Rattle.star_places.specs.declared.places.ThreePlaces.{ThreePlaces}
use Rattle.star_places.specs.Places.{AreThree, IsBefore, IsSpot, Precedes, far, nowhere}
use Rattle.star_places.proofs.NearSpots.{near-spot}

-- a spot of some places is one of more
more : (f : ℕ → ℤ) (n : ℕ) (spot : Spot) → IsSpot f n spot → IsSpot f (n + 1) spot
more f n spot is = record { most = is.most; there = λ near. let l = is.there near in omega (arith, l); is = is.is; none = is.none }

-- the spot of a place is one, and the place of a spot is
at-spot : (f : ℕ → ℤ) (n : ℕ) (spot : Spot) → n ≤ nowhere → IsSpot f n spot → (k : ℕ) → k < n → k ≡ spot.place → spot.growth ≡ f k
at-spot f n spot few is k low e = is.is k near e
  where
    near : spot.growth <ℤ far
    near = near-spot f n spot is (omega (arith, few, low, e))

before-second : (f : ℕ → ℤ) (second third : Spot) (k : ℕ) → Precedes second third → third.growth ≡ f k → k ≡ third.place → third.growth <ℤ far → IsBefore f second k
before-second f second third k order is e near = record { level = let l = order.level in omega (arith, ints, l, is); tie = λ h. let t = order.tie (omega (arith, ints, h, is)) near in omega (arith, t, e) }

trans : (f : ℕ → ℤ) (n : ℕ) (second third : Spot) (k : ℕ) → n ≤ nowhere → k < n → IsSpot f n third → Precedes second third → IsBefore f third k → IsBefore f second k
trans f n second third k few low is order before = record {
  level = let l = order.level in let m = before.level in omega (arith, ints, l, m);
  tie = λ h. tied h;
}
  where
    tied : f k ≤ℤ second.growth → second.place < k
    tied h =
        let l = order.level in
        let m = before.level in
        let later : third.place < k = before.tie (omega (arith, ints, h, l)) in
        let near : third.growth <ℤ far = near-spot f n third is (omega (arith, later, low, few)) in
        let first = order.tie (omega (arith, ints, h, m)) near in
        omega (arith, first, later)

module _ (f : ℕ → ℤ) (n : ℕ) (few : n < nowhere) (three : ThreePlaces) (are : AreThree f n three) (g : ℤ) (is : g ≡ f n) (near : g <ℤ far) where
  abbrev new : Spot
  new = record { growth = g; place = n }

  spot-new : IsSpot f (n + 1) new
  spot-new = record {
    most = omega (arith, ints, near);
    there = λ _. omega arith;
    is = λ k _ e. is ∙ ap f (sym e);
    none = λ h. absurd (omega (arith, ints, h, near));
  }

  low : n ≤ nowhere
  low = omega (arith, few)

  -- a place that is none of the first two comes behind the second one
  behind-second : (k : ℕ) → k < n → k ≢ three.first.place → k ≢ three.second.place → IsBefore f three.second k
  behind-second k inside a b = by (cases_eq k three.third.place)
    where
      by : (k ≡ three.third.place) ⊎ (k ≢ three.third.place) → IsBefore f three.second k
      by (inl e) =
          let at = at-spot f n three.third low are.third k inside e in
          let near' : three.third.growth <ℤ far = near-spot f n three.third are.third (omega (arith, inside, few, e)) in
          before-second f three.second three.third k are.second_third at e near'
      by (inr c) = trans f n three.second three.third k low inside are.third are.second_third (are.others k inside a b c)

  inner : (k : ℕ) → k < n + 1 → k ≢ n → k < n
  inner k h a = omega arith

  pub with-first : g <ℤ three.first.growth → AreThree f (n + 1) (record { first = new; second = three.first; third = three.second })
  with-first less = record {
    first = spot-new;
    second = more f n three.first are.first;
    third = more f n three.second are.second;
    first_second = record { level = omega (arith, ints, less); tie = λ h _. absurd (omega (arith, ints, less, h)) };
    second_third = are.first_second;
    others = λ k h a b c. behind-second k (inner k h a) b c;
  }

  pub with-second : three.first.growth ≤ℤ g → g <ℤ three.second.growth → AreThree f (n + 1) (record { first = three.first; second = new; third = three.second })
  with-second no_less less = record {
    first = more f n three.first are.first;
    second = spot-new;
    third = more f n three.second are.second;
    first_second = record { level = no_less; tie = λ _ _. are.first.there (omega (arith, ints, no_less, near)) };
    second_third = record { level = omega (arith, ints, less); tie = λ h _. absurd (omega (arith, ints, less, h)) };
    others = λ k h a b c. behind-second k (inner k h b) a c;
  }

  pub with-third : three.second.growth ≤ℤ g → g <ℤ three.third.growth → AreThree f (n + 1) (record { first = three.first; second = three.second; third = new })
  with-third no_less less = record {
    first = more f n three.first are.first;
    second = more f n three.second are.second;
    third = spot-new;
    first_second = are.first_second;
    second_third = record { level = no_less; tie = λ _ _. are.second.there (omega (arith, ints, no_less, near)) };
    others = λ k h a b c. before-new k (inner k h c) a b;
  }
    where
      before-new : (k : ℕ) → k < n → k ≢ three.first.place → k ≢ three.second.place → IsBefore f new k
      before-new k inside a b = by (cases_eq k three.third.place)
        where
          by : (k ≡ three.third.place) ⊎ (k ≢ three.third.place) → IsBefore f new k
          by (inl e) =
              let at = at-spot f n three.third low are.third k inside e in
              record { level = omega (arith, ints, at, less); tie = λ h. absurd (omega (arith, ints, at, less, h)) }
          by (inr c) =
              let level = (are.others k inside a b c).level in
              record { level = omega (arith, ints, level, less); tie = λ h. absurd (omega (arith, ints, level, less, h)) }

  pub with-none : three.third.growth ≤ℤ g → AreThree f (n + 1) three
  with-none no_less = record {
    first = more f n three.first are.first;
    second = more f n three.second are.second;
    third = more f n three.third are.third;
    first_second = are.first_second;
    second_third = are.second_third;
    others = λ k h a b c. by (cases_eq k n) h a b c;
  }
    where
      by : {k : ℕ} → (k ≡ n) ⊎ (k ≢ n) → k < n + 1 → k ≢ three.first.place → k ≢ three.second.place → k ≢ three.third.place → IsBefore f three.third k
      by {k = k} (inl e) h a b c =
          let same : f k ≡ f n = ap f e in
          let there = are.third.there (omega (arith, ints, no_less, near)) in
          record { level = omega (arith, ints, no_less, is, same); tie = λ _. omega (arith, there, e) }
      by {k = k} (inr d) h a b c = are.others k (inner k h d) a b c

-- those of no places
pub three-none : (f : ℕ → ℤ) (spot : Spot) → spot.growth ≡ far → spot.place ≡ nowhere → AreThree f 0 (record { first = spot; second = spot; third = spot })
three-none f spot growth place = record {
  first = none;
  second = none;
  third = none;
  first_second = same;
  second_third = same;
  others = λ k h a b c. absurd (omega (arith, h));
}
  where
    none : IsSpot f 0 spot
    none = record {
      most = omega (arith, ints, growth);
      there = λ near. absurd (omega (arith, ints, growth, near));
      is = λ k near e. absurd (omega (arith, ints, growth, near));
      none = λ _. place;
    }

    same : Precedes spot spot
    same = record { level = omega (arith, ints); tie = λ _ near. absurd (omega (arith, ints, growth, near)) }
