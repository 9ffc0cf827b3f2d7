-- The best of some places, with one place more.
use Rattle.std.proofs.Common.{◌≡◌, ◌∙◌, ℕ, ◌<◌, ◌≤◌, Bool, true, false, cond, List, [], ◌∷◌, ◌++◌, Option, Some, None, ap, arith, refl, sym}
use Rattle.std.specs.Prelude.{ℤ, pos, ◌+ℤ◌, ◌<ℤ◌, ◌≤ℤ◌, nat_lt}
use Rattle.std.proofs.lemmas.Bool.Decides.{nat_tests}
use Rattle.std.proofs.lemmas.Int.{ints}
use Rattle.list_words.specs.Order.{first_least, first_least_from, lesser}
use Rattle.problem_data.specs.declared.problem.Problem.{Problem}
use Rattle.problem_data.specs.Places.{client_at}
use Rattle.routing_model.specs.declared.weights.Weights.{Weights}
use Rattle.routing_model.specs.Cost.{solution_cost}
use Rattle.routing_model.specs.Routes.{Routes}
use Rattle.least_insertions.specs.declared.positions.Place.{Place}
use Rattle.least_insertions.specs.inside.Places.{IsBestOf, IsPlace, plan_at}

-- the first least of a list with one element more
abbrev least_with : {X : Type 0} → (X → ℕ) → Option X → X → Option X
least_with f None y = Some y
least_with f (Some x) y = Some (lesser f x y)

first_least-push : {X : Type 0} (f : X → ℕ) (xs : List X) (y : X) → first_least f (xs ++ y ∷ []) ≡ least_with f (first_least f xs) y
first_least-push f [] y = refl
first_least-push {X} f (x ∷ xs) y = ap (λ (z : X). Some z) (from x xs)
  where
    from : (x : X) (xs : List X) → first_least_from f x (xs ++ y ∷ []) ≡ lesser f (first_least_from f x xs) y
    from x [] = refl
    from x (z ∷ xs) = from (lesser f x z) xs

less-true : (m n : ℕ) → m < n → nat_lt m n ≡ true
less-true m n h = grind (arith, nat_tests)

less-false : (m n : ℕ) → n ≤ m → nat_lt m n ≡ false
less-false m n h = grind (arith, nat_tests)

cheaper : (x y s z : ℕ) (g h : ℤ) → (pos x +ℤ pos z) ≡ (pos s +ℤ g) → (pos y +ℤ pos z) ≡ (pos s +ℤ h) → g <ℤ h → x < y
cheaper x y s z g h e k l = omega (arith, ints)

dearer : (x y s z : ℕ) (g h : ℤ) → (pos x +ℤ pos z) ≡ (pos s +ℤ g) → (pos y +ℤ pos z) ≡ (pos s +ℤ h) → g ≤ℤ h → x ≤ y
dearer x y s z g h e k l = omega (arith, ints)

module _ (p : Problem) (w : Weights) (routes : Routes) (c : ℕ) (plans : List Routes) (place : Place) (is_place : IsPlace p w routes c place) where
  abbrev f : Routes → ℕ
  f = solution_cost p w

  -- the first place
  pub best-first : IsBestOf p w routes c None plans → IsBestOf p w routes c (Some place) (plans ++ plan_at routes c place ∷ [])
  best-first best = record {
    is = sym (first_least-push f plans (plan_at routes c place) ∙ ap (λ (o : Option Routes). least_with f o (plan_at routes c place)) (sym best.is));
    place = is_place;
  }

  module _ (kept : Place) (best : IsBestOf p w routes c (Some kept) plans) where
    pushed : (b : Bool) → nat_lt (f (plan_at routes c place)) (f (plan_at routes c kept)) ≡ b →
        first_least f (plans ++ plan_at routes c place ∷ []) ≡ Some (cond b (plan_at routes c place) (plan_at routes c kept))
    pushed b e =
        first_least-push f plans (plan_at routes c place)
        ∙ (ap (λ (o : Option Routes). least_with f o (plan_at routes c place)) (sym best.is) ∙ ap (λ (t : Bool). Some (cond t (plan_at routes c place) (plan_at routes c kept))) e)

    -- a better place
    pub best-taken : place.growth <ℤ kept.growth → IsBestOf p w routes c (Some place) (plans ++ plan_at routes c place ∷ [])
    best-taken less = record {
      is = sym (pushed true (less-true _ _
          (cheaper (f (plan_at routes c place)) (f (plan_at routes c kept)) (f routes) (client_at p c).prize place.growth kept.growth is_place.grown best.place.grown less)));
      place = is_place;
    }

    -- a place that is no better
    pub best-kept : kept.growth ≤ℤ place.growth → IsBestOf p w routes c (Some kept) (plans ++ plan_at routes c place ∷ [])
    best-kept more = record {
      is = sym (pushed false (less-false _ _
          (dearer (f (plan_at routes c kept)) (f (plan_at routes c place)) (f routes) (client_at p c).prize kept.growth place.growth best.place.grown is_place.grown more)));
      place = best.place;
    }
