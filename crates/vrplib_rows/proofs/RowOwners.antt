-- The first row that names a node, and whether a node comes again among the rows.
use Rattle.std.proofs.Common.{◌≡◌, ◌+◌, ◌<◌, ◌≤◌, ℕ, suc, Bool, true, false, not, ◌||◌, ◌&&◌, cond, eqb, ltb, ◌==◌, List, [], ◌∷◌, ◌++◌, length, map, get_or, refl, sym, ◌∙◌, ap, ⊎_elim, arith, Some, None, ℤ}
use Rattle.std.specs.Prelude.{slice_index, flat_map}
use Rattle.std.specs.List.{list_any, All, position, position_or_len}
use Rattle.std.specs.Option.{option_map_or}
use Rattle.std.proofs.lemmas.Bool.{cases_lt, eq-eqb, ne_eqb, lt-ltb, le-ltb}
use Rattle.std.proofs.lemmas.List.{append-nil, length_push, map_push, length-map}
use Rattle.std.proofs.lemmas.List.Concat.{flat_map-append}
use Rattle.std.proofs.lemmas.List.Folds.{list_any-append, position_or_len_push}
use Rattle.vrplib_model.specs.Checks.{contains, has_repeated}
use Rattle.vrplib_rows.specs.inside.RowTables.{AreOwned, names_apart}
use Rattle.vrplib_model.specs.RowFaults.{nodes_named}
use Rattle.vrplib_model.specs.declared.section.Section.{Section}
use Rattle.vrplib_rows.proofs.Repeats.{eqb_same, or_false, repeated-append}

-- tests that agree on each number of a list find one alike
pub list_any_same : {X : Type 0} (p q : X → Bool) (xs : List X) → All (λ x. p x ≡ q x) xs → list_any p xs ≡ list_any q xs
list_any_same p q [] h = refl
list_any_same p q (x ∷ xs) h =
    ap (λ b. b || list_any p xs) (h 0 x (omega arith)) ∙ ap (λ b. q x || b) (list_any_same p q xs (λ k d lt. h (suc k) d (omega arith)))

ltb_suc : (a b : ℕ) → ltb (1 + a) (suc b) ≡ ltb a b
ltb_suc a b = ⊎_elim (λ (h : a < b). lt-ltb (1 + a) (suc b) (omega arith) ∙ sym (lt-ltb a b h)) (λ (h : b ≤ a). le-ltb (1 + a) (suc b) (omega arith) ∙ sym (le-ltb a b h)) (cases_lt a b)

found : {X : Type 0} (p : X → Bool) (xs : List X) → ltb (position_or_len p xs) (length xs) ≡ list_any p xs
found p [] = refl
found p (x ∷ xs) = elim (p x) as (λ b. ltb (cond (not b) (1 + position_or_len p xs) 0) (suc (length xs)) ≡ (b || list_any p xs)) [
  | true ↦ lt-ltb 0 (suc (length xs)) (omega arith)
  | false ↦ ltb_suc (position_or_len p xs) (length xs) ∙ found p xs
]

place_bound : {X : Type 0} (p : X → Bool) (xs : List X) → position_or_len p xs ≤ length xs
place_bound p [] = omega arith
place_bound p (x ∷ xs) = elim (p x) as (λ b. cond (not b) (1 + position_or_len p xs) 0 ≤ suc (length xs)) [
  | true ↦ omega arith
  | false ↦ omega (arith, place_bound p xs)
]

-- the number, from 1, of the first list that passes, or 0
abbrev number_of_first : {X : Type 0} → (X → Bool) → List X → ℕ
number_of_first p xs = option_map_or suc (position p xs) 0

abbrev number_at_place : ℕ → ℕ → ℕ
number_at_place a n = option_map_or suc (cond (ltb a n) (Some a) None) 0

is_above_zero : (b : Bool) (a : ℕ) → ltb 0 (option_map_or suc (cond b (Some a) None) 0) ≡ b
is_above_zero true a = lt-ltb 0 (suc a) (omega arith)
is_above_zero false a = refl

first_is_there : {X : Type 0} (p : X → Bool) (xs : List X) → ltb 0 (number_of_first p xs) ≡ list_any p xs
first_is_there p xs = is_above_zero (ltb (position_or_len p xs) (length xs)) (position_or_len p xs) ∙ found p xs

place_push : (a n : ℕ) (b : Bool) → a ≤ n → number_at_place (cond (eqb a n) (n + cond b 0 1) a) (n + 1) ≡ cond (eqb (number_at_place a n) 0 && b) (n + 1) (number_at_place a n)
place_push a n b h = ⊎_elim
    (λ (lt : a < n).
    rw (ne_eqb a n (λ e. omega arith), lt-ltb a n lt, lt-ltb a (n + 1) (omega arith), ne_eqb (suc a) 0 (λ e. omega arith)) refl)
    (λ (ge : n ≤ a).
    rw (eq-eqb a n (omega arith), le-ltb a n ge) (last n b))
    (cases_lt a n)
  where
    last : (n : ℕ) (b : Bool) → number_at_place (n + cond b 0 1) (n + 1) ≡ cond b (n + 1) 0
    last n true = rw (lt-ltb (n + 0) (n + 1) (omega arith)) (omega arith)
    last n false = rw (le-ltb (n + 1) (n + 1) (omega arith)) refl

first_push : {X : Type 0} (p : X → Bool) (xs : List X) (y : X) → number_of_first p (xs ++ y ∷ []) ≡ cond (eqb (number_of_first p xs) 0 && p y) (length xs + 1) (number_of_first p xs)
first_push p xs y =
    rw (position_or_len_push p xs y, length_push xs y) (place_push (position_or_len p xs) (length xs) (p y) (place_bound p xs))

-- a node is in the rows where it is in one of them
contains-rows : (s : Section) (n : ℕ) (rows : List (List ℤ)) → contains n (flat_map (nodes_named s) rows) ≡ list_any (contains n) (map (nodes_named s) rows)
contains-rows s n [] = refl
contains-rows s n (row ∷ rows) = list_any-append (λ m. m == n) (nodes_named s row) (flat_map (nodes_named s) rows) ∙ ap (λ b. contains n (nodes_named s row) || b) (contains-rows s n rows)

-- a node has an owner where a row names it
owned_is : (s : Section) (nodes : ℕ) (rows : List (List ℤ)) (owners : List ℕ) (n : ℕ) → AreOwned s nodes rows owners → n ≤ nodes → ltb 0 (slice_index owners n) ≡ contains n (flat_map (nodes_named s) rows)
owned_is s nodes rows owners n o h =
    ap (λ m. ltb 0 m) (o.owned n h) ∙ first_is_there (contains n) (map (nodes_named s) rows) ∙ sym (contains-rows s n rows)

-- nodes come again with the rows where they come again among themselves, or one has an owner
pub comes_again_is : (s : Section) (nodes : ℕ) (rows : List (List ℤ)) (owners named : List ℕ) → AreOwned s nodes rows owners → names_apart s ≡ true → All (λ n. n < length owners) named
    → has_repeated (named ++ flat_map (nodes_named s) rows) ≡ (has_repeated named || list_any (λ n. ltb 0 (slice_index owners n)) named)
comes_again_is s nodes rows owners named o apart within =
    let same : list_any (λ n. ltb 0 (slice_index owners n)) named ≡ list_any (λ n. contains n (flat_map (nodes_named s) rows)) named =
    list_any_same _ _ named (λ k d h. owned_is s nodes rows owners (get_or named k d) o (omega (arith, within k d h, o.one_each))) in
    repeated-append named (flat_map (nodes_named s) rows)
    ∙ ap (λ b. has_repeated named || (list_any (λ n. contains n (flat_map (nodes_named s) rows)) named || b)) (o.apart apart)
    ∙ ap (λ b. has_repeated named || b) (or_false _ ∙ sym same)

or_two : (a b c d : Bool) → ((a || b) || (c || d)) ≡ ((a || c) || (b || d))
or_two true b c d = refl
or_two false true true d = refl
or_two false true false d = refl
or_two false false c d = refl

meets_none : (ys : List ℕ) → list_any (λ n. contains n []) ys ≡ false
meets_none [] = refl
meets_none (y ∷ ys) = meets_none ys

meets_first : (x : ℕ) (xs ys : List ℕ) → list_any (λ n. contains n (x ∷ xs)) ys ≡ (contains x ys || list_any (λ n. contains n xs) ys)
meets_first x xs [] = refl
meets_first x xs (y ∷ ys) =
    ap (λ b. (eqb x y || contains y xs) || b) (meets_first x xs ys) ∙ or_two (eqb x y) (contains y xs) (contains x ys) (list_any (λ n. contains n xs) ys)
    ∙ ap (λ b. (b || contains x ys) || (contains y xs || list_any (λ n. contains n xs) ys)) (eqb_same x y)

meets_comm : (xs ys : List ℕ) → list_any (λ n. contains n ys) xs ≡ list_any (λ n. contains n xs) ys
meets_comm [] ys = sym (meets_none ys)
meets_comm (x ∷ xs) ys = ap (λ b. contains x ys || b) (meets_comm xs ys) ∙ sym (meets_first x xs ys)

or_turned : (a b c : Bool) → (a || (b || c)) ≡ (c || (b || a))
or_turned true true true = refl
or_turned true true false = refl
or_turned true false true = refl
or_turned true false false = refl
or_turned false true true = refl
or_turned false true false = refl
or_turned false false true = refl
or_turned false false false = refl

repeated_comm : (xs ys : List ℕ) → has_repeated (xs ++ ys) ≡ has_repeated (ys ++ xs)
repeated_comm xs ys =
    repeated-append xs ys ∙ ap (λ b. has_repeated xs || (b || has_repeated ys)) (meets_comm xs ys) ∙ or_turned (has_repeated xs) (list_any (λ n. contains n xs) ys) (has_repeated ys)
    ∙ sym (repeated-append ys xs)

-- the owners with one row more
pub owned_more : (s : Section) (nodes : ℕ) (rows : List (List ℤ)) (row : List ℤ) (owners named after : List ℕ) (number : ℕ)
    → AreOwned s nodes rows owners → named ≡ nodes_named s row → number ≡ length rows + 1 → length after ≡ length owners
    → (names_apart s ≡ true → has_repeated (nodes_named s row ++ flat_map (nodes_named s) rows) ≡ false)
    → ((n : ℕ) → slice_index after n ≡ cond (eqb (slice_index owners n) 0 && contains n named) number (slice_index owners n))
    → AreOwned s nodes (rows ++ row ∷ []) after
owned_more s nodes rows row owners named after number o name is same apart each =
    let f = nodes_named s in
    record {
      one_each = same ∙ o.one_each;
      owned = λ n h.
          (each n ∙ ap (λ m. cond (eqb m 0 && contains n named) number m) (o.owned n h)
          ∙ ap (λ ns. cond (eqb (number_of_first (contains n) (map f rows)) 0 && contains n ns) number (number_of_first (contains n) (map f rows))) name
          ∙ ap (λ m. cond (eqb (number_of_first (contains n) (map f rows)) 0 && contains n (f row)) m (number_of_first (contains n) (map f rows))) (is ∙ ap (λ m. m + 1) (sym (length-map rows f)))
          ∙ sym (first_push (contains n) (map f rows) (f row)) ∙ ap (λ ls. number_of_first (contains n) ls) (sym (map_push f rows row)));
      apart = λ t. (ap has_repeated (flat_map-append f rows (row ∷ []) ∙ ap (λ ns. flat_map f rows ++ ns) (append-nil (f row)))
          ∙ repeated_comm (flat_map f rows) (f row) ∙ apart t);
    }

-- the owners, once these nodes are owned
pub record AreOwnedBy (number : ℕ) (before after named : List ℕ) : Type 0 where
  pub each : (n : ℕ) → slice_index after n ≡ cond (eqb (slice_index before n) 0 && contains n named) number (slice_index before n)
