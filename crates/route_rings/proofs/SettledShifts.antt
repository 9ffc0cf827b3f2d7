-- Shifts of starts: the best of four, and one after the other.
use Rattle.std.proofs.Common.{◌≡◌, ◌∙◌, ℕ, ◌<◌, ◌≤◌, Bool, true, false, cond, sym, ap, ap₂, arith}
use Rattle.std.specs.Prelude.{nat_lt}
use Rattle.std.proofs.lemmas.Bool.Decides.{nat_tests}
use Rattle.list_words.specs.Order.{lesser}
use Rattle.genetic_model.specs.Laws.{ShiftsSettle}
use Rattle.genetic_model.specs.declared.starts.Starts.{Starts}
use Rattle.genetic_model.specs.RouteSelection.{best_shift, settled}
use Rattle.route_rings.specs.declared.selection.Measured.{Measured}
use Rattle.route_rings.specs.inside.Measuring.{IsMeasured}

pub lesser-either : (P : Starts → Type 0) (f : Starts → ℕ) (x y : Starts) → P x → P y → P (lesser f x y)
lesser-either P f x y h k = by (nat_lt (f y) (f x))
  where
    by : (b : Bool) → P (cond b y x)
    by true = k
    by false = h

pub lesser-of : (f : Starts → ℕ) (x y u v : Starts) → x ≡ u → y ≡ v → lesser f x y ≡ lesser f u v
lesser-of f x y u v e k = ap₂ (λ (s t : Starts). lesser f s t) e k

-- starts of which each place is the one that is meant
pub starts-at : (a b x y : ℕ) (s : Starts) → s ≡ record { first = a; second = b } → a ≡ x → b ≡ y → s ≡ record { first = x; second = y }
starts-at a b x y s is e k = is ∙ (λ i. record { first = e i; second = k i })

less-true : (m n : ℕ) → m < n → nat_lt m n ≡ true
less-true m n h = grind (arith, nat_tests)

less-false : (m n : ℕ) → n ≤ m → nat_lt m n ≡ false
less-false m n h = grind (arith, nat_tests)

module _ (f : Starts → ℕ) (m n : ℕ) (law : ShiftsSettle) (at best : Measured) (is : IsMeasured f at) (best_is : IsMeasured f best) (shift : best.starts ≡ best_shift f m n at.starts) where
  step : (b : Bool) → nat_lt (f (best_shift f m n at.starts)) (f at.starts) ≡ b → settled f m n at.starts ≡ cond b (settled f m n (best_shift f m n at.starts)) at.starts
  step b e = law f m n at.starts ∙ ap (λ (c : Bool). cond c (settled f m n (best_shift f m n at.starts)) at.starts) e

  best-is : f (best_shift f m n at.starts) ≡ best.difference
  best-is = ap f (sym shift) ∙ sym best_is

  -- where the difference falls, the shifts go on
  pub goes-on : best.difference < at.difference → settled f m n best.starts ≡ settled f m n at.starts
  goes-on less =
      ap (settled f m n) shift
      ∙ sym (step true (ap₂ (λ (a b : ℕ). nat_lt a b) best-is (sym is) ∙ less-true best.difference at.difference less))

  -- where it doesn't, they end
  pub ends-here : at.difference ≤ best.difference → settled f m n at.starts ≡ at.starts
  ends-here more = step false (ap₂ (λ (a b : ℕ). nat_lt a b) best-is (sym is) ∙ less-false best.difference at.difference more)
