-- The best place that isn't beside a visit, and the best of the list without that visit.
use Rattle.std.proofs.Common.{◌≡◌, ◌≢◌, ◌⊎◌, inl, inr, ℕ, ◌+◌, ◌-◌, ◌<◌, ◌≤◌, nat_lt, Bool, true, false, ◌||◌, cond, refl, sym, ◌∙◌, ap, ap₂, arith, subst, ℤ, ◌<ℤ◌, ◌≤ℤ◌}
use Rattle.std.specs.Prelude.{◌==◌, nat_eq}
use Rattle.std.proofs.lemmas.Bool.{cases_eq}
use Rattle.std.proofs.lemmas.Bool.Decides.{nat_tests}
use Rattle.std.proofs.lemmas.Int.{ints}
use Rattle.star_places.specs.declared.spot.Spot.{Spot}
use Rattle.star_places.specs.declared.places.ThreePlaces.{ThreePlaces}
use Rattle.star_places.specs.Growths.{without}
use Rattle.star_places.specs.Places.{AreThree, IsBestApart, IsLeastSpot, IsSpot, Precedes, far, nowhere}
use Rattle.star_places.proofs.NearSpots.{either, near-spot}

abbrev is_beside : Spot → ℕ → Bool
is_beside spot position = nat_eq spot.place position || nat_eq spot.place (position + 1)

beside : (a b : ℕ) → (nat_eq a b || nat_eq a (b + 1)) ≡ true → (a ≡ b) ⊎ (a ≡ b + 1)
beside a b h = grind (arith, nat_tests)

not-at : (a b : ℕ) → (nat_eq a b || nat_eq a (b + 1)) ≡ false → a ≢ b
not-at a b h e = grind (arith, nat_tests)

not-behind : (a b : ℕ) → (nat_eq a b || nat_eq a (b + 1)) ≡ false → a ≢ b + 1
not-behind a b h e = grind (arith, nat_tests)

-- a spot is at a place, or before it
pub record IsAtMost (f : ℕ → ℤ) (spot : Spot) (k : ℕ) : Type 0 where
  pub level : spot.growth ≤ℤ f k
  pub tie : f k ≤ℤ spot.growth → spot.place ≤ k

module _ (f : ℕ → ℤ) (n position : ℕ) (few : n ≤ nowhere) (three : ThreePlaces) (are : AreThree f n three) where
  -- a spot that comes before the third one, at each place that is none of the spots before it
  at-place : (spot : Spot) (k : ℕ) → IsSpot f n spot → k < n → k ≡ spot.place → IsAtMost f spot k
  at-place spot k is inside e =
      let near : spot.growth <ℤ far = near-spot f n spot is (omega (arith, inside, few, e)) in
      let at = is.is k near e in
      record { level = omega (arith, ints, at); tie = λ _. omega (arith, e) }

  later : (a b : Spot) (k : ℕ) → IsSpot f n b → k < n → Precedes a b → IsAtMost f b k → IsAtMost f a k
  later a b k is inside order most = record {
    level = let l = order.level in let m = most.level in omega (arith, ints, l, m);
    tie = λ h. tied h;
  }
    where
      tied : f k ≤ℤ a.growth → a.place ≤ k
      tied h =
          let l = order.level in
          let m = most.level in
          let b_first : b.place ≤ k = most.tie (omega (arith, ints, h, l)) in
          let near : b.growth <ℤ far = near-spot f n b is (omega (arith, b_first, inside, few)) in
          let a_first = order.tie (omega (arith, ints, h, m)) near in
          omega (arith, a_first, b_first)

  third-most : (k : ℕ) → k < n → k ≢ three.first.place → k ≢ three.second.place → IsAtMost f three.third k
  third-most k inside a b = by (cases_eq k three.third.place)
    where
      by : (k ≡ three.third.place) ⊎ (k ≢ three.third.place) → IsAtMost f three.third k
      by (inl e) = at-place three.third k are.third inside e
      by (inr c) = let before = are.others k inside a b c in record { level = before.level; tie = λ h. let t = before.tie h in omega (arith, t) }

  second-most : (k : ℕ) → k < n → k ≢ three.first.place → IsAtMost f three.second k
  second-most k inside a = by (cases_eq k three.second.place)
    where
      by : (k ≡ three.second.place) ⊎ (k ≢ three.second.place) → IsAtMost f three.second k
      by (inl e) = at-place three.second k are.second inside e
      by (inr b) = later three.second three.third k are.third inside are.second_third (third-most k inside a b)

  first-most : (k : ℕ) → k < n → IsAtMost f three.first k
  first-most k inside = by (cases_eq k three.first.place)
    where
      by : (k ≡ three.first.place) ⊎ (k ≢ three.first.place) → IsAtMost f three.first k
      by (inl e) = at-place three.first k are.first inside e
      by (inr a) = later three.first three.second k are.second inside are.first_second (second-most k inside a)

  -- two spots are of two places
  apart : (a b : Spot) → IsSpot f n a → IsSpot f n b → Precedes a b → b.growth <ℤ far → a.place ≢ b.place
  apart a b is is' order near e =
      let l = order.level in
      let x : a.growth ≡ f b.place = is.is b.place (omega (arith, ints, l, near)) (sym e) in
      let y : b.growth ≡ f b.place = is'.is b.place near refl in
      let t = order.tie (omega (arith, ints, x, y)) near in
      omega (arith, t, e)

  chain : Precedes three.first three.third
  chain =
      let a = are.first_second in
      let b = are.second_third in
      let l = a.level in
      let m = b.level in
      record { level = omega (arith, ints, l, m); tie = λ h near. tied h near }
    where
      tied : three.third.growth ≤ℤ three.first.growth → three.third.growth <ℤ far → three.first.place < three.third.place
      tied h near =
          let l = are.first_second.level in
          let m = are.second_third.level in
          let s = are.second_third.tie (omega (arith, ints, h, l)) near in
          let r = are.first_second.tie (omega (arith, ints, h, m)) (omega (arith, ints, m, near)) in
          omega (arith, s, r)

  other : (spot : Spot) (k : ℕ) → is_beside spot position ≡ true → k ≢ position → k ≢ position + 1 → k ≢ spot.place
  other spot k at a b e = by (beside spot.place position at)
    where
      by : (spot.place ≡ position) ⊎ (spot.place ≡ position + 1) → ⊥
      by (inl p) = a (e ∙ p)
      by (inr p) = b (e ∙ p)

  pub first-apart : is_beside three.first position ≡ false → IsBestApart f n position three.first
  first-apart free = record {
    spot_is = are.first;
    apart = λ _. not-at three.first.place position free;
    apart_behind = λ _. not-behind three.first.place position free;
    least = λ k inside a b. (first-most k inside).level;
    earliest = λ k inside a b h. (first-most k inside).tie h;
  }

  pub second-apart : is_beside three.first position ≡ true → is_beside three.second position ≡ false → IsBestApart f n position three.second
  second-apart at free = record {
    spot_is = are.second;
    apart = λ _. not-at three.second.place position free;
    apart_behind = λ _. not-behind three.second.place position free;
    least = λ k inside a b. (second-most k inside (other three.first k at a b)).level;
    earliest = λ k inside a b h. (second-most k inside (other three.first k at a b)).tie h;
  }

  pub third-apart : is_beside three.first position ≡ true → is_beside three.second position ≡ true → IsBestApart f n position three.third
  third-apart at at' = record {
    spot_is = are.third;
    apart = λ near e. two near (inl e);
    apart_behind = λ near e. two near (inr e);
    least = λ k inside a b. (third-most k inside (other three.first k at a b) (other three.second k at' a b)).level;
    earliest = λ k inside a b h. (third-most k inside (other three.first k at a b) (other three.second k at' a b)).tie h;
  }
    where
      two : three.third.growth <ℤ far → (three.third.place ≡ position) ⊎ (three.third.place ≡ position + 1) → ⊥
      two near c =
          let m = are.second_third.level in
          let near' : three.second.growth <ℤ far = omega (arith, ints, m, near) in
          let x = apart three.first three.second are.first are.second are.first_second near' in
          let y = apart three.second three.third are.second are.third are.second_third near in
          let z = apart three.first three.third are.first are.third chain near in
          by (beside three.first.place position at) (beside three.second.place position at') c x y z
        where
          by : (three.first.place ≡ position) ⊎ (three.first.place ≡ position + 1) → (three.second.place ≡ position) ⊎ (three.second.place ≡ position + 1) →
              (three.third.place ≡ position) ⊎ (three.third.place ≡ position + 1) →
              three.first.place ≢ three.second.place → three.second.place ≢ three.third.place → three.first.place ≢ three.third.place → ⊥
          by (inl a) (inl b) c x y z = x (a ∙ sym b)
          by (inr a) (inr b) c x y z = x (a ∙ sym b)
          by (inl a) (inr b) (inl c) x y z = z (a ∙ sym c)
          by (inl a) (inr b) (inr c) x y z = y (b ∙ sym c)
          by (inr a) (inl b) (inl c) x y z = y (b ∙ sym c)
          by (inr a) (inl b) (inr c) x y z = z (a ∙ sym c)

-- the list without the visit
module _ (position : ℕ) (instead : ℤ) (f : ℕ → ℤ) where
  pub without-early : (k : ℕ) → k < position → without position instead f k ≡ f k
  without-early k h = let t : nat_lt k position ≡ true = grind (arith, nat_tests) in ap (λ (b : Bool). cond b (f k) (cond (k == position) instead (f (k + 1)))) t

  pub without-own : (k : ℕ) → k ≡ position → without position instead f k ≡ instead
  without-own k e =
      let t : nat_lt k position ≡ false = grind (arith, nat_tests) in
      let u : (k == position) ≡ true = grind (arith, nat_tests) in
      ap₂ (λ (a b : Bool). cond a (f k) (cond b instead (f (k + 1)))) t u

  pub without-late : (k : ℕ) → position < k → without position instead f k ≡ f (k + 1)
  without-late k h =
      let t : nat_lt k position ≡ false = grind (arith, nat_tests) in
      let u : (k == position) ≡ false = grind (arith, nat_tests) in
      ap₂ (λ (a b : Bool). cond a (f k) (cond b instead (f (k + 1)))) t u

module _ (f : ℕ → ℤ) (n position : ℕ) (instead : ℤ) (kept : Spot) (in_list : position < n) (few : n < nowhere) (near : instead <ℤ far) (best : IsBestApart f (n + 1) position kept) where
  abbrev g : ℕ → ℤ
  g = without position instead f

  -- what is at least at each place that isn't beside is so at each place of the list without the visit
  each : (P : ℕ → ℤ → Type 0) → P position instead → ((k : ℕ) → k < position → P k (f k)) → ((k : ℕ) → position < k → k < n → P k (f (k + 1))) → (k : ℕ) → k < n → P k (g k)
  each P own early late k inside = by (cases_eq k position)
    where
      by : (k ≡ position) ⊎ (k ≢ position) → P k (g k)
      by (inl e) = subst (P k) (sym (without-own position instead f k e)) (subst (λ (m : ℕ). P m instead) (sym e) own)
      by (inr d) = side (nat_lt k position) refl
        where
          side : (b : Bool) → nat_lt k position ≡ b → P k (g k)
          side true t = let l : k < position = grind (arith, nat_tests) in subst (P k) (sym (without-early position instead f k l)) (early k l)
          side false t =
              let l : position ≤ k = grind (arith, nat_tests) in
              let h : position < k = omega (arith, l, d) in
              subst (P k) (sym (without-late position instead f k h)) (late k h inside)

  early-least : (k : ℕ) → k < position → kept.growth ≤ℤ f k
  early-least k h = best.least k (omega (arith, h, in_list)) (omega arith) (omega arith)

  early-first : (k : ℕ) → k < position → f k ≤ℤ kept.growth → kept.place ≤ k
  early-first k h = best.earliest k (omega (arith, h, in_list)) (omega arith) (omega arith)

  late-least : (k : ℕ) → position < k → k < n → kept.growth ≤ℤ f (k + 1)
  late-least k h l = best.least (k + 1) (omega (arith, l)) (omega arith) (omega arith)

  late-first : (k : ℕ) → position < k → k < n → f (k + 1) ≤ℤ kept.growth → kept.place ≤ k + 1
  late-first k h l = best.earliest (k + 1) (omega (arith, l)) (omega arith) (omega arith)

  -- a spot by what it is no worse than
  spot : (place : ℕ) (growth : ℤ) → place < n → growth ≡ g place →
      ((k : ℕ) → k < n → growth ≤ℤ g k) → ((k : ℕ) → k < n → g k ≤ℤ growth → place ≤ k) → IsLeastSpot g n (record { growth = growth; place = place })
  spot place growth inside is least first = record {
    place = record {
      inside = inside;
      least = λ k l. let m = least k l in omega (arith, ints, m, is);
      earliest = λ k l h. first k l (omega (arith, ints, h, is));
    };
    growth = is;
  }

  pub own-best : ((k : ℕ) → k < position → instead <ℤ f k) → instead ≤ℤ kept.growth → IsLeastSpot g n (record { growth = instead; place = position })
  own-best early most =
      spot position instead in_list (sym (without-own position instead f position refl))
      (each (λ k z. instead ≤ℤ z) (omega (arith, ints)) (λ k h. let l = early k h in omega (arith, ints, l)) (λ k h l. let m = late-least k h l in omega (arith, ints, m, most)))
      (each (λ k z. z ≤ℤ instead → position ≤ k) (λ _. omega arith) (λ k h t. absurd (let l = early k h in omega (arith, ints, l, t))) (λ k h l t. omega arith))

  kept-near : kept.growth ≤ℤ instead → kept.growth <ℤ far
  kept-near h = omega (arith, ints, h, near)

  pub kept-early : kept.place < position → kept.growth ≤ℤ instead → IsLeastSpot g n kept
  kept-early before most =
      spot kept.place kept.growth (omega (arith, before, in_list)) (best.spot_is.is kept.place (kept-near most) refl ∙ sym (without-early position instead f kept.place before))
      (each (λ k z. kept.growth ≤ℤ z) most early-least late-least)
      (each (λ k z. z ≤ℤ kept.growth → kept.place ≤ k) (λ _. omega (arith, before)) early-first (λ k h l t. omega (arith, before, h)))

  pub kept-late : position ≤ kept.place → kept.growth <ℤ instead → IsLeastSpot g n (record { growth = kept.growth; place = kept.place - 1 })
  kept-late behind most =
      let close : kept.growth <ℤ far = omega (arith, ints, most, near) in
      let a = best.apart close in
      let b = best.apart_behind close in
      let there = best.spot_is.there close in
      let past : position < kept.place - 1 = omega (arith, behind, a, b) in
      let back : kept.place - 1 + 1 ≡ kept.place = omega (arith, behind, a) in
      let inside : kept.place - 1 < n = omega (arith, there, past) in
      spot (kept.place - 1) kept.growth inside
      (best.spot_is.is kept.place close refl ∙ (ap f (sym back) ∙ sym (without-late position instead f (kept.place - 1) past)))
      (each (λ k z. kept.growth ≤ℤ z) (omega (arith, ints, most)) early-least late-least)
      (each (λ k z. z ≤ℤ kept.growth → kept.place - 1 ≤ k) (λ t. absurd (omega (arith, ints, t, most)))
      (λ k h t. absurd (let l = early-first k h t in omega (arith, l, h, behind))) (λ k h l t. let m = late-first k h l t in omega (arith, m)))

  -- where the visit's own place isn't beaten, no earlier place is as good
  pub own-early : instead <ℤ kept.growth → (k : ℕ) → k < position → instead <ℤ f k
  own-early most k h = let l = early-least k h in omega (arith, ints, l, most)

  pub own-late : position ≤ kept.place → instead ≤ℤ kept.growth → (k : ℕ) → k < position → instead <ℤ f k
  own-late behind most k h = by (either kept.growth (f k))
    where
      by : (kept.growth <ℤ f k) ⊎ (f k ≤ℤ kept.growth) → instead <ℤ f k
      by (inl less) = omega (arith, ints, less, most)
      by (inr level) = absurd (let first = early-first k h level in omega (arith, first, behind, h))
