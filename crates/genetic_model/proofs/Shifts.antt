-- The shifts settle: one step of `settled`, without a bound on their number.
use Rattle.std.proofs.Common.{◌≡◌, ℕ, zero, suc, ◌≤◌, Bool, true, false, cond, refl, sym, ◌∙◌, arith}
use Rattle.std.specs.Prelude.{nat_lt}
use Rattle.std.proofs.lemmas.Bool.{ltb-true}
use Rattle.genetic_model.specs.declared.starts.Starts.{Starts}
use Rattle.genetic_model.specs.RouteSelection.{best_shift, shifted, settled}

-- two choices are the same where they are the same at true
same_choice : {X : Type 0} (b : Bool) (x y z : X) → (b ≡ true → x ≡ y) → cond b x z ≡ cond b y z
same_choice true x y z same = same refl
same_choice false x y z same = refl

-- a choice whose test can't be true
other_choice : {X : Type 0} (b : Bool) (x z : X) → (b ≡ true → ⊥) → cond b x z ≡ z
other_choice true x z never = absurd (never refl)
other_choice false x z never = refl

module _ (f : Starts → ℕ) (m n : ℕ) where
  -- at least 0 nothing is left to fall
  stays : (s : Starts) (x : Starts) → f s ≤ 0 → cond (nat_lt (f (best_shift f m n s)) (f s)) x s ≡ s
  stays s x least = other_choice (nat_lt (f (best_shift f m n s)) (f s)) x s
      (λ falls. let less = ltb-true (f (best_shift f m n s)) (f s) falls in omega arith)

  -- at f or more, the bound doesn't matter
  pub shifted-enough : (k j : ℕ) (s : Starts) → f s ≤ k → f s ≤ j → shifted f m n k s ≡ shifted f m n j s
  shifted-enough zero zero s below_k below_j = refl
  shifted-enough zero (suc j) s below_k below_j = sym (stays s (shifted f m n j (best_shift f m n s)) below_k)
  shifted-enough (suc k) zero s below_k below_j = stays s (shifted f m n k (best_shift f m n s)) below_j
  shifted-enough (suc k) (suc j) s below_k below_j =
      same_choice (nat_lt (f (best_shift f m n s)) (f s)) (shifted f m n k (best_shift f m n s)) (shifted f m n j (best_shift f m n s)) s
      (λ falls. let less = ltb-true (f (best_shift f m n s)) (f s) falls in shifted-enough k j (best_shift f m n s) (omega arith) (omega arith))

  -- one step: the best shift, as long as f falls
  pub settled-step : (s : Starts) → settled f m n s ≡ cond (nat_lt (f (best_shift f m n s)) (f s)) (settled f m n (best_shift f m n s)) s
  settled-step s = shifted-enough (f s) (suc (f s)) s (omega arith) (omega arith)
      ∙ same_choice (nat_lt (f (best_shift f m n s)) (f s)) (shifted f m n (f s) (best_shift f m n s)) (settled f m n (best_shift f m n s)) s
      (λ falls. let less = ltb-true (f (best_shift f m n s)) (f s) falls in shifted-enough (f s) (f (best_shift f m n s)) (best_shift f m n s) (omega arith) (omega arith))
