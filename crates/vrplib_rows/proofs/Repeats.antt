-- Numbers that come again in a list, and marks of the numbers of a list.
use Rattle.std.proofs.Common.{◌≡◌, ◌+◌, ◌==◌, ◌<◌, ℕ, Bool, true, false, ◌||◌, List, [], ◌∷◌, ◌++◌, length, get_or, take, drop, set, refl, sym, ◌∙◌, ap, subst, ⊎_elim, get_or-set_same, get_or-set_other, eqb}
use Rattle.std.specs.List.{list_any}
use Rattle.std.proofs.lemmas.Bool.{cases_eq, eq-eqb, ne_eqb, or_left, or_right, or_parts, or_from}
use Rattle.std.proofs.lemmas.List.{take-append-drop, take_more}
use Rattle.std.proofs.lemmas.List.Folds.{list_any-append}
use Rattle.vrplib_model.specs.Checks.{contains, has_repeated}

or_mixed : (a b c d e : Bool) → ((a || b) || (c || (d || e))) ≡ ((a || c) || ((b || d) || e))
or_mixed true b c d e = refl
or_mixed false true true d e = refl
or_mixed false true false d e = refl
or_mixed false false c d e = refl

-- a number comes again in two lists together: in one of them, or it is in both
pub repeated-append : (xs ys : List ℕ) → has_repeated (xs ++ ys) ≡ (has_repeated xs || (list_any (λ n. contains n ys) xs || has_repeated ys))
repeated-append [] ys = refl
repeated-append (x ∷ xs) ys =
    ap (λ b. b || has_repeated (xs ++ ys)) (list_any-append (λ m. m == x) xs ys)
    ∙ ap (λ b. (contains x xs || contains x ys) || b) (repeated-append xs ys)
    ∙ or_mixed (contains x xs) (contains x ys) (has_repeated xs) (list_any (λ n. contains n ys) xs) (has_repeated ys)

pub eqb_same : (a b : ℕ) → eqb a b ≡ eqb b a
eqb_same a b = ⊎_elim (λ (e : a ≡ b). eq-eqb a b e ∙ sym (eq-eqb b a (sym e))) (λ (n : a ≡ b → ⊥). ne_eqb a b n ∙ sym (ne_eqb b a (λ e. n (sym e)))) (cases_eq a b)

pub or_false : (a : Bool) → (a || false) ≡ a
or_false true = refl
or_false false = refl

meets_one : (x : ℕ) (xs : List ℕ) → list_any (λ n. contains n (x ∷ [])) xs ≡ contains x xs
meets_one x [] = refl
meets_one x (y ∷ ys) = ap (λ b. b || list_any (λ n. contains n (x ∷ [])) ys) (or_false (eqb x y) ∙ eqb_same x y) ∙ ap (λ b. eqb y x || b) (meets_one x ys)

-- one more number comes again where it is in the list
pub repeated_push : (xs : List ℕ) (x : ℕ) → has_repeated (xs ++ x ∷ []) ≡ (has_repeated xs || contains x xs)
repeated_push xs x = repeated-append xs (x ∷ []) ∙ ap (λ b. has_repeated xs || b) (or_false (list_any (λ n. contains n (x ∷ [])) xs) ∙ meets_one x xs)

-- what comes again at the start comes again in the list
pub repeated_from_start : (i : ℕ) (xs : List ℕ) → has_repeated (take i xs) ≡ true → has_repeated xs ≡ true
repeated_from_start i xs h =
    let P : List ℕ → Type 0 = λ ys. has_repeated ys ≡ true in
    subst P (take-append-drop i xs) (repeated-append (take i xs) (drop i xs) ∙ or_left _ _ h)

-- what isn't in the list isn't in its start
pub contains_at_start : (n i : ℕ) (xs : List ℕ) → contains n xs ≡ false → contains n (take i xs) ≡ false
contains_at_start n i xs h =
    let P : List ℕ → Type 0 = λ ys. contains n ys ≡ false in
    let parts = or_parts (contains n (take i xs)) (contains n (drop i xs)) (sym (list_any-append (λ m. m == n) (take i xs) (drop i xs)) ∙ subst P (sym (take-append-drop i xs)) h) in
    parts.0

-- the marks are those of the numbers
pub record AreMarked (marked : List Bool) (xs : List ℕ) : Type 0 where
  pub each : (n : ℕ) → get_or marked n false ≡ contains n xs

-- one more mark
pub marked_more : (marked : List Bool) (xs : List ℕ) (i x : ℕ) → i < length xs → x ≡ get_or xs i x → x < length marked → AreMarked marked (take i xs) → AreMarked (set marked x true) (take (i + 1) xs)
marked_more marked xs i x h r w m =
    let marks : (n : ℕ) → get_or (set marked x true) n false ≡ contains n (take i xs ++ x ∷ []) = λ n.
    (let same : n ≡ x → get_or (set marked x true) n false ≡ contains n (take i xs ++ x ∷ []) = λ e.
    let P : ℕ → Type 0 = λ k. get_or (set marked x true) k false ≡ contains k (take i xs ++ x ∷ []) in
    subst P (sym e) (get_or-set_same marked x true false w ∙ sym (list_any-append (λ m. m == x) (take i xs) (x ∷ []) ∙ or_right _ _ (or_left _ _ (eq-eqb x x refl)))) in
    let other : (n ≡ x → ⊥) → get_or (set marked x true) n false ≡ contains n (take i xs ++ x ∷ []) = λ ne.
    get_or-set_other marked x n true false ne ∙ m.each n
    ∙ sym (list_any-append (λ m. m == n) (take i xs) (x ∷ []) ∙ ap (λ b. contains n (take i xs) || (b || false)) (ne_eqb x n (λ e. ne (sym e))) ∙ or_false (contains n (take i xs))) in
    ⊎_elim same other (cases_eq n x)) in
    let more : take (i + 1) xs ≡ take i xs ++ x ∷ [] = take_more xs i x h ∙ ap (λ y. take i xs ++ y ∷ []) (sym r) in
    record { each = λ n. marks n ∙ ap (λ ys. contains n ys) (sym more) }

-- a mark that is set finds a number that comes again
pub repeated_at_mark : (marked : List Bool) (xs : List ℕ) (i x : ℕ) → i < length xs → x ≡ get_or xs i x → AreMarked marked (take i xs) → get_or marked x false ≡ true → has_repeated xs ≡ true
repeated_at_mark marked xs i x h r m set_there =
    let more : take (i + 1) xs ≡ take i xs ++ x ∷ [] = take_more xs i x h ∙ ap (λ y. take i xs ++ y ∷ []) (sym r) in
    repeated_from_start (i + 1) xs (ap has_repeated more ∙ repeated_push (take i xs) x ∙ or_right _ _ (sym (m.each x) ∙ set_there))

-- where the next number has no mark, none comes again yet
pub apart_more : (marked : List Bool) (xs : List ℕ) (i x : ℕ) → i < length xs → x ≡ get_or xs i x → AreMarked marked (take i xs) → get_or marked x false ≡ false → has_repeated (take i xs) ≡ false → has_repeated (take (i + 1) xs) ≡ false
apart_more marked xs i x h r m none apart =
    let more : take (i + 1) xs ≡ take i xs ++ x ∷ [] = take_more xs i x h ∙ ap (λ y. take i xs ++ y ∷ []) (sym r) in
    ap has_repeated more ∙ repeated_push (take i xs) x ∙ or_from _ _ apart (sym (m.each x) ∙ none)

-- only numbers of the list are marked
pub record AreMarkedIn (marked : List Bool) (xs : List ℕ) : Type 0 where
  pub each : (n : ℕ) → contains n xs ≡ false → get_or marked n false ≡ false
