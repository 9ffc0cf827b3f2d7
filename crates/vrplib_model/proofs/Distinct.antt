-- Numbers that don't come again.
use Rattle.std.proofs.Common.{◌≡◌, inl, inr, ℕ, true, false, List, [], ◌∷◌, ◌++◌, refl, sym, ◌∙◌, subst}
use Rattle.std.specs.Prelude.{◌||◌, ◌==◌}
use Rattle.std.proofs.lemmas.Bool.{eqb-true, eq-eqb, or_parts, or_from, or_left, or_right, or_cases, true≢false, false_from_ne_true}
use Rattle.std.proofs.lemmas.List.Folds.{list_any-append}
use Rattle.vrplib_model.specs.Checks.{contains, has_repeated}

-- no number is in both lists
abbrev pub AreApart : List ℕ → List ℕ → Type 0
AreApart xs ys = (n : ℕ) → contains n xs ≡ true → contains n ys ≡ false

pub apart-swap : (xs ys : List ℕ) → AreApart xs ys → AreApart ys xs
apart-swap xs ys h n in_ys = false_from_ne_true (contains n xs) (λ in_xs. true≢false (sym in_ys ∙ h n in_xs))

pub contains-append : (n : ℕ) (xs ys : List ℕ) → contains n (xs ++ ys) ≡ (contains n xs || contains n ys)
contains-append n xs ys = list_any-append (λ m. m == n) xs ys

pub contains-head : (n : ℕ) (xs : List ℕ) → contains n (n ∷ xs) ≡ true
contains-head n xs = or_left (n == n) (contains n xs) (eq-eqb n n refl)

pub contains-tail : (n m : ℕ) (xs : List ℕ) → contains n xs ≡ true → contains n (m ∷ xs) ≡ true
contains-tail n m xs h = or_right (m == n) (contains n xs) h

-- the head of two lists
apart-head : (x : ℕ) (xs ys : List ℕ) → contains x ys ≡ false → AreApart xs ys → AreApart (x ∷ xs) ys
apart-head x xs ys out h n found = elim (or_cases (x == n) (contains n xs) found) [
  | inl here ↦ subst (λ m. contains m ys ≡ false) (eqb-true x n here) out
  | inr later ↦ h n later
]

pub record ArePartsDistinct (xs ys : List ℕ) : Type 0 where
  pub left : has_repeated xs ≡ false
  pub right : has_repeated ys ≡ false
  pub apart : AreApart xs ys

pub distinct-parts : (xs ys : List ℕ) → has_repeated (xs ++ ys) ≡ false → ArePartsDistinct xs ys
distinct-parts [] ys e = record { left = refl; right = e; apart = λ n found. absurd (true≢false (sym found)) }
distinct-parts (x ∷ xs) ys e =
    let parts = or_parts (contains x (xs ++ ys)) (has_repeated (xs ++ ys)) e in
    let sides = or_parts (contains x xs) (contains x ys) (sym (contains-append x xs ys) ∙ parts.0) in
    let rest = distinct-parts xs ys parts.1 in
    record {
      left = or_from (contains x xs) (has_repeated xs) sides.0 rest.left;
      right = rest.right;
      apart = apart-head x xs ys sides.1 rest.apart;
    }

pub distinct-join : (xs ys : List ℕ) → ArePartsDistinct xs ys → has_repeated (xs ++ ys) ≡ false
distinct-join [] ys h = h.right
distinct-join (x ∷ xs) ys h =
    let parts = or_parts (contains x xs) (has_repeated xs) h.left in
    let out : contains x ys ≡ false = h.apart x (contains-head x xs) in
    let here = contains-append x xs ys ∙ or_from (contains x xs) (contains x ys) parts.0 out in
    let rest = distinct-join xs ys (record { left = parts.1; right = h.right; apart = λ n found. h.apart n (contains-tail n x xs found) }) in
    or_from (contains x (xs ++ ys)) (has_repeated (xs ++ ys)) here rest

pub distinct-swap : (xs ys : List ℕ) → has_repeated (xs ++ ys) ≡ false → has_repeated (ys ++ xs) ≡ false
distinct-swap xs ys e =
    let parts = distinct-parts xs ys e in
    distinct-join ys xs (record { left = parts.right; right = parts.left; apart = apart-swap xs ys parts.apart })
