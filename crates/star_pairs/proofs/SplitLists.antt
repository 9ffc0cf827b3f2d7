-- A list of clients split at one of them, and the places along it.
use Rattle.std.proofs.Common.{◌≡◌, ◌⊎◌, ◌||◌, inl, inr, ℕ, zero, suc, ◌+◌, ◌<◌, ◌≤◌, Bool, true, false, cond, List, [], ◌∷◌, ◌++◌, length, refl, sym, ◌∙◌, ap, subst, arith, append_assoc}
use Rattle.std.specs.Prelude.{◌==◌, count_by, insert, nat_eq, slice_index, IsTrue}
use Rattle.std.proofs.lemmas.Bool.{cases_eq}
use Rattle.std.proofs.lemmas.Bool.Decides.{nat_tests}
use Rattle.list_words.specs.Lists.{is_in}
use Rattle.problem_data.specs.declared.problem.VehicleType.{VehicleType}
use Rattle.search_model.specs.Edits.{visits_of}
use Rattle.search_model.specs.RouteMoves.{omitted}
use Rattle.gain_model.specs.Growths.{tour_places}
use Rattle.gain_model.proofs.StandsOnce.{count_by-cons, other_test, same_test}
use Rattle.route_cache.specs.Marks.{place_along}

-- split at a position
pub record IsSplit (us : List ℕ) (i : ℕ) : Type 0 where
  pub before : List ℕ
  pub u : ℕ
  pub behind : List ℕ
  pub whole : us ≡ before ++ u ∷ behind
  pub place : length before ≡ i

pub split-at : (us : List ℕ) (i : ℕ) → i < length us → IsSplit us i
split-at [] i h = absurd (omega (arith, h))
split-at (x ∷ us) zero h = record { before = []; u = x; behind = us; whole = refl; place = refl }
split-at (x ∷ us) (suc i) h = by (split-at us i (omega (arith, h)))
  where
    by : IsSplit us i → IsSplit (x ∷ us) (suc i)
    by s = record { before = x ∷ s.before; u = s.u; behind = s.behind; whole = ap (λ (xs : List ℕ). x ∷ xs) s.whole; place = ap (λ (n : ℕ). suc n) s.place }

-- a client of a list stands at some position
pub record StandsAtSome (us : List ℕ) (u : ℕ) : Type 0 where
  pub at : ℕ
  pub there : at < length us
  pub is : slice_index us at ≡ u

pub stands-somewhere : (us : List ℕ) (u : ℕ) → IsTrue (is_in us u) → StandsAtSome us u
stands-somewhere [] u h = absurd no
  where
    no : ⊥
    no = cc
stands-somewhere (x ∷ us) u h = by (cases_eq u x) (λ k. stands-somewhere us u k)
  where
    by : (u ≡ x) ⊎ (u ≡ x → ⊥) → (IsTrue (is_in us u) → StandsAtSome us u) → StandsAtSome (x ∷ us) u
    by (inl e) rest = record { at = zero; there = omega arith; is = sym e }
    by (inr n) rest = more (rest (rw (other_test u x n) at h))
      where
        more : StandsAtSome us u → StandsAtSome (x ∷ us) u
        more s = record { at = suc s.at; there = let t = s.there in omega (arith, t); is = s.is }

pub in-there : (us : List ℕ) (i : ℕ) → i < length us → IsTrue (is_in us (slice_index us i))
in-there [] i h = absurd (omega (arith, h))
in-there (x ∷ us) zero h = rw (same_test x x refl) refl
in-there (x ∷ us) (suc i) h = later (nat_eq (slice_index us i) x) (in-there us i (omega (arith, h)))
  where
    later : (b : Bool) → is_in us (slice_index us i) ≡ true → (b || is_in us (slice_index us i)) ≡ true
    later true k = refl
    later false k = k

-- the client of a split
pub index-split : (before : List ℕ) (u : ℕ) (behind : List ℕ) → slice_index (before ++ u ∷ behind) (length before) ≡ u
index-split [] u behind = refl
index-split (x ∷ before) u behind = index-split before u behind

-- left out
not-counted : (v : ℕ) (vs : List ℕ) → count_by (nat_eq v) vs ≡ 0 → omitted v vs ≡ vs
not-counted v [] h = refl
not-counted v (x ∷ vs) h = by (cases_eq v x) (λ k. not-counted v vs k)
  where
    sum : cond (nat_eq v x) 1 0 + count_by (nat_eq v) vs ≡ 0
    sum = sym (count_by-cons v x vs) ∙ h

    turned : (v x : ℕ) → (v ≡ x → ⊥) → (x == v) ≡ false
    turned v x n = grind (arith, nat_tests)

    by : (v ≡ x) ⊎ (v ≡ x → ⊥) → (count_by (nat_eq v) vs ≡ 0 → omitted v vs ≡ vs) → omitted v (x ∷ vs) ≡ x ∷ vs
    by (inl e) rest = let t : 1 + count_by (nat_eq v) vs ≡ 0 = subst (λ b. cond b 1 0 + count_by (nat_eq v) vs ≡ 0) (same_test v x e) sum in absurd (omega (arith, t))
    by (inr n) rest =
        let t : 0 + count_by (nat_eq v) vs ≡ 0 = subst (λ b. cond b 1 0 + count_by (nat_eq v) vs ≡ 0) (other_test v x n) sum in
        rw (turned v x n) (ap (λ (zs : List ℕ). x ∷ zs) (rest (omega (arith, t))))

pub omitted-split : (before : List ℕ) (u : ℕ) (behind : List ℕ) → count_by (nat_eq u) (before ++ u ∷ behind) ≤ 1 → omitted u (before ++ u ∷ behind) ≡ before ++ behind
omitted-split [] u behind once =
    let sum = count_by-cons u u behind in
    let t : 1 + count_by (nat_eq u) behind ≤ 1 = subst (λ (b : Bool). cond b 1 0 + count_by (nat_eq u) behind ≤ 1) (same_test u u refl) (subst (λ (n : ℕ). n ≤ 1) sum once) in
    rw (turned u) (not-counted u behind (omega (arith, t)))
  where
    turned : (u : ℕ) → (u == u) ≡ true
    turned u = grind (arith, nat_tests)
omitted-split (x ∷ before) u behind once = by (cases_eq u x) (omitted-split before u behind)
  where
    sum : cond (nat_eq u x) 1 0 + count_by (nat_eq u) (before ++ u ∷ behind) ≤ 1
    sum = subst (λ (n : ℕ). n ≤ 1) (count_by-cons u x (before ++ u ∷ behind)) once

    some : (before : List ℕ) → 1 ≤ count_by (nat_eq u) (before ++ u ∷ behind)
    some [] = let all = count_by-cons u u behind in let t : ◌≡◌ {A = ℕ} (cond (nat_eq u u) 1 0) 1 = ap (λ (b : Bool). cond b 1 0) (same_test u u refl) in omega (arith, all, t)
    some (y ∷ ys) = let all = count_by-cons u y (ys ++ u ∷ behind) in let rest = some ys in omega (arith, all, rest)

    turned : (v x : ℕ) → (v ≡ x → ⊥) → (x == v) ≡ false
    turned v x n = grind (arith, nat_tests)

    by : (u ≡ x) ⊎ (u ≡ x → ⊥) → (count_by (nat_eq u) (before ++ u ∷ behind) ≤ 1 → omitted u (before ++ u ∷ behind) ≡ before ++ behind) →
        omitted u (x ∷ before ++ u ∷ behind) ≡ x ∷ before ++ behind
    by (inl e) rest =
        let t : 1 + count_by (nat_eq u) (before ++ u ∷ behind) ≤ 1 = subst (λ (b : Bool). cond b 1 0 + count_by (nat_eq u) (before ++ u ∷ behind) ≤ 1) (same_test u x e) sum in
        let one = some before in
        absurd (omega (arith, t, one))
    by (inr n) rest =
        let t : 0 + count_by (nat_eq u) (before ++ u ∷ behind) ≤ 1 = subst (λ (b : Bool). cond b 1 0 + count_by (nat_eq u) (before ++ u ∷ behind) ≤ 1) (other_test u x n) sum in
        rw (turned u x n) (ap (λ (zs : List ℕ). x ∷ zs) (rest (omega (arith, t))))

-- the whole list is what is left with the client put back
pub put-back : (before : List ℕ) (u : ℕ) (behind : List ℕ) → insert (before ++ behind) (length before) u ≡ before ++ u ∷ behind
put-back [] u behind = refl
put-back (x ∷ before) u behind = ap (λ (zs : List ℕ). x ∷ zs) (put-back before u behind)

-- the places along a list of clients
pub along-places : (t : VehicleType) (us : List ℕ) (k : ℕ) → k ≤ length us + 1 → place_along t (visits_of us) k ≡ slice_index (tour_places t us) k
along-places t us zero h = refl
along-places t us (suc k) h = by us k (omega (arith, h))
  where
    by : (us : List ℕ) (k : ℕ) → k ≤ length us → place_along t (visits_of us) (suc k) ≡ slice_index (us ++ t.end ∷ []) k
    by [] zero h = refl
    by [] (suc k) h = absurd (omega (arith, h))
    by (x ∷ us) zero h = refl
    by (x ∷ us) (suc k) h = by us k (omega (arith, h))

early-same : (x : ℕ) (before rest rest' : List ℕ) (i : ℕ) → i ≤ length before → slice_index (x ∷ (before ++ rest)) i ≡ slice_index (x ∷ (before ++ rest')) i
early-same x before rest rest' zero h = refl
early-same x [] rest rest' (suc i) h = absurd (omega (arith, h))
early-same x (y ∷ before) rest rest' (suc i) h = early-same y before rest rest' i (omega (arith, h))

late-same : (x : ℕ) (before : List ℕ) (u : ℕ) (rest : List ℕ) (i : ℕ) → length before < i → slice_index (x ∷ (before ++ rest)) i ≡ slice_index (x ∷ (before ++ u ∷ rest)) (suc i)
late-same x before u rest zero h = absurd (omega (arith, h))
late-same x [] u rest (suc i) h = refl
late-same x (y ∷ before) u rest (suc i) h = late-same y before u rest i (omega (arith, h))

-- with a client and without it
module _ (t : VehicleType) (before : List ℕ) (u : ℕ) (behind : List ℕ) where
  pub places-early : (i : ℕ) → i ≤ length before → slice_index (tour_places t (before ++ behind)) i ≡ slice_index (tour_places t (before ++ u ∷ behind)) i
  places-early i h =
      ap (λ (xs : List ℕ). slice_index (t.start ∷ xs) i) (append_assoc before behind (t.end ∷ []))
      ∙ (early-same t.start before (behind ++ t.end ∷ []) (u ∷ (behind ++ t.end ∷ [])) i h
      ∙ ap (λ (xs : List ℕ). slice_index (t.start ∷ xs) i) (sym (append_assoc before (u ∷ behind) (t.end ∷ []))))

  pub places-late : (i : ℕ) → length before < i → slice_index (tour_places t (before ++ behind)) i ≡ slice_index (tour_places t (before ++ u ∷ behind)) (i + 1)
  places-late i h =
      ap (λ (xs : List ℕ). slice_index (t.start ∷ xs) i) (append_assoc before behind (t.end ∷ []))
      ∙ (late-same t.start before u (behind ++ t.end ∷ []) i h
      ∙ (ap (λ (xs : List ℕ). slice_index (t.start ∷ xs) (suc i)) (sym (append_assoc before (u ∷ behind) (t.end ∷ [])))
      ∙ ap (λ (k : ℕ). slice_index (tour_places t (before ++ u ∷ behind)) k) next))
    where
      next : suc i ≡ i + 1
      next = omega arith
