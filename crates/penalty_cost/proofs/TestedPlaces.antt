-- Tests of all clients, one place at a time.
use Rattle.std.proofs.Common.{◌≡◌, ℕ, zero, suc, ◌+◌, ◌<◌, ◌≤◌, ◌⊎◌, inl, inr, Bool, true, false, ◌&&◌, refl, sym, ◌∙◌, ap, ap₂, arith}
use Rattle.std.specs.Prelude.{min, nat_lt}
use Rattle.std.specs.List.{list_all, range_with_len}
use Rattle.std.proofs.lemmas.Bool.Decides.{nat_tests}
use Rattle.routing_model.specs.Routes.{Routes, is_visited, visit_count}
use Rattle.penalty_cost.proofs.VisitSums.{visited-counted}

-- each place of a range passes
pub all_pass : (test : ℕ → Bool) (a n : ℕ) → ((k : ℕ) → a ≤ k → k < a + n → test k ≡ true) → list_all test (range_with_len a n) ≡ true
all_pass test a zero each = refl
all_pass test a (suc n) each =
    ap₂ (λ (x y : Bool). x && y) (each a (omega arith) (omega arith)) (all_pass test (a + 1) n (λ k low high. each k (omega arith) (omega arith)))

-- some place of a range fails
pub one_fails : (test : ℕ → Bool) (a n k : ℕ) → a ≤ k → k < a + n → test k ≡ false → list_all test (range_with_len a n) ≡ false
one_fails test a zero k low high fails = absurd (omega arith)
one_fails test a (suc n) k low high fails = elim (here_or_later a k low) as (λ _. list_all test (range_with_len a (suc n)) ≡ false) [
  | inl here ↦ ap (λ (x : Bool). x && list_all test (range_with_len (a + 1) n)) (ap test (sym here) ∙ fails)
  | inr later ↦ ap (λ (y : Bool). test a && y) (one_fails test (a + 1) n k later (omega arith) fails) ∙ and-no (test a)
]
  where
    here_or_later : (a k : ℕ) → a ≤ k → (k ≡ a) ⊎ (a + 1 ≤ k)
    here_or_later a k h = grind arith

    and-no : (b : Bool) → (b && false) ≡ false
    and-no true = refl
    and-no false = refl

-- whether a client is visited, by its count
pub visited-by_count : (routes : Routes) (place count : ℕ) → count ≡ min 2 (visit_count routes place) → nat_lt 0 count ≡ is_visited routes place
visited-by_count routes place count e = by_cases (is_visited routes place) (visit_count routes place) count e (visited-counted routes place)
  where
    by_cases : (b : Bool) (n count : ℕ) → count ≡ min 2 n → (b ≡ true → 1 ≤ n) × (b ≡ false → n ≡ 0) → nat_lt 0 count ≡ b
    by_cases true n count e h = let k = h.0 refl in grind (arith, nat_tests)
    by_cases false n count e h = let k = h.1 refl in grind (arith, nat_tests)
