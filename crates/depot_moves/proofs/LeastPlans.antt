-- The first element at which a number is least, one element after the other.
use Rattle.std.proofs.Common.{◌≡◌, ℕ, ◌<◌, ◌≤◌, Bool, true, false, cond, List, [], ◌∷◌, ◌++◌, refl, ◌∙◌, ap, subst, arith, Option, None, Some}
use Rattle.std.specs.Prelude.{All, nat_lt}
use Rattle.std.proofs.lemmas.Bool.Decides.{nat_tests}
use Rattle.std.proofs.lemmas.List.Elements.{All-head, All-tail}
use Rattle.list_words.specs.Order.{first_least, first_least_from, lesser}

is-less : (m n : ℕ) → m < n → nat_lt m n ≡ true
is-less m n h = grind (arith, nat_tests)

no-less : (m n : ℕ) → n ≤ m → nat_lt m n ≡ false
no-less m n h = grind (arith, nat_tests)

module _ {X : Type 0} (f : X → ℕ) where
  from-more : (x : X) (xs : List X) (y : X) → first_least_from f x (xs ++ y ∷ []) ≡ lesser f (first_least_from f x xs) y
  from-more x [] y = refl
  from-more x (z ∷ zs) y = from-more (lesser f x z) zs y

  -- one more element
  least-more : (xs : List X) (r y : X) → first_least f xs ≡ Some r → first_least f (xs ++ y ∷ []) ≡ Some (lesser f r y)
  least-more [] r y h = cc
  least-more (x ∷ xs) r y h = ap (λ (z : X). Some z) (from-more x xs y) ∙ ap (λ (o : Option X). lesser-in o) h
    where
      lesser-in : Option X → Option X
      lesser-in None = None
      lesser-in (Some z) = Some (lesser f z y)

  -- one that is less, and one that isn't
  pub least-new : (xs : List X) (r y : X) → first_least f xs ≡ Some r → f y < f r → first_least f (xs ++ y ∷ []) ≡ Some y
  least-new xs r y h less = least-more xs r y h ∙ ap (λ (b : Bool). Some (cond b y r)) (is-less (f y) (f r) less)

  pub least-old : (xs : List X) (r y : X) → first_least f xs ≡ Some r → f r ≤ f y → first_least f (xs ++ y ∷ []) ≡ Some r
  least-old xs r y h more = least-more xs r y h ∙ ap (λ (b : Bool). Some (cond b y r)) (no-less (f y) (f r) more)

  -- what holds of all holds of it
  from-all : (P : X → Type 0) (x : X) (xs : List X) → P x → All P xs → P (first_least_from f x xs)
  from-all P x [] of_x all = of_x
  from-all P x (y ∷ ys) of_x all = from-all P (lesser f x y) ys (by (nat_lt (f y) (f x))) (All-tail P y ys all)
    where
      by : (b : Bool) → P (cond b y x)
      by true = All-head P y ys all
      by false = of_x

  pub least-all : (P : X → Type 0) (xs : List X) (r : X) → first_least f xs ≡ Some r → All P xs → P r
  least-all P [] r h all = absurd (let w : ⊥ = cc in w)
  least-all P (x ∷ xs) r h all =
      let same : first_least_from f x xs ≡ r = cc in
      subst P same (from-all P x xs (All-head P x xs all) (All-tail P x xs all))

  -- the first one below a bound that all others reach
  pub least-first : (xs : List X) (bound : ℕ) (y : X) → All (λ x. bound ≤ f x) xs → f y < bound → first_least f (xs ++ y ∷ []) ≡ Some y
  least-first [] bound y all less = refl
  least-first (x ∷ xs) bound y all less =
      let reached = least-all (λ z. bound ≤ f z) (x ∷ xs) (first_least_from f x xs) refl all in
      least-new (x ∷ xs) (first_least_from f x xs) y refl (omega (arith, less, reached))
