-- Looking for the giver of a vehicle, one receiver after the other.
use Rattle.std.proofs.Common.{◌≡◌, ◌∙◌, ℕ, ◌+◌, ◌<◌, ◌==◌, Bool, true, false, cond, List, ◌∷◌, Some, None, length, get_or, drop, find, zip, refl, ap, arith}
use Rattle.std.specs.Prelude.{nat_eq, option_map}
use Rattle.std.proofs.lemmas.List.{drop_more, drop_all}
use Rattle.exchange_children.specs.inside.Givers.{giver_in}

pub giver-step : (x y : ℕ) (xs ys : List ℕ) (v : ℕ) → giver_in (x ∷ xs) (y ∷ ys) v ≡ cond (x == v) (Some y) (giver_in xs ys v)
giver-step x y xs ys v = by (nat_eq x v)
  where
    by : (b : Bool) → option_map (λ (pair : ℕ × ℕ). pair.1) (cond b (Some (x, y)) (find (λ (pair : ℕ × ℕ). pair.0 == v) (zip xs ys))) ≡ cond b (Some y) (giver_in xs ys v)
    by true = refl
    by false = refl

module _ (into from : List ℕ) (v at : ℕ) (long : length into ≡ length from) (inside : at < length into) where
  next : giver_in (drop at into) (drop at from) v ≡ cond (get_or into at 0 == v) (Some (get_or from at 0)) (giver_in (drop (at + 1) into) (drop (at + 1) from) v)
  next =
      ap (λ (xs : List ℕ). giver_in xs (drop at from) v) (drop_more into at 0 inside)
      ∙ (ap (λ (ys : List ℕ). giver_in (get_or into at 0 ∷ drop (at + 1) into) ys v) (drop_more from at 0 (omega arith))
      ∙ giver-step (get_or into at 0) (get_or from at 0) (drop (at + 1) into) (drop (at + 1) from) v)

  pub giver-here : (get_or into at 0 == v) ≡ true → giver_in (drop at into) (drop at from) v ≡ Some (get_or from at 0)
  giver-here e = next ∙ ap (λ (b : Bool). cond b (Some (get_or from at 0)) (giver_in (drop (at + 1) into) (drop (at + 1) from) v)) e

  pub giver-later : (get_or into at 0 == v) ≡ false → giver_in (drop at into) (drop at from) v ≡ giver_in (drop (at + 1) into) (drop (at + 1) from) v
  giver-later e = next ∙ ap (λ (b : Bool). cond b (Some (get_or from at 0)) (giver_in (drop (at + 1) into) (drop (at + 1) from) v)) e

pub giver-none : (into from : List ℕ) (v at : ℕ) → length into ≡ at → giver_in (drop at into) (drop at from) v ≡ None
giver-none into from v at e = ap (λ (xs : List ℕ). giver_in xs (drop at from) v) (drop_all at into (omega arith))
