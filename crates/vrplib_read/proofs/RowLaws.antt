-- Numbers in rows, and the first row that passes a test.
use Rattle.std.proofs.Common.{◌≡◌, ◌==◌, ◌||◌, nat_lt, ℕ, zero, suc, ◌<◌, ◌≤◌, Bool, true, false, List, [], ◌∷◌, length, get_or, take, map, add-one, subst, ◌+◌, ◌*◌, ◌^◌, ◌++◌, refl, sym, ◌∙◌, ap, cond, Some, None, ℤ, pos, arith, rules, IsTrue}
use Rattle.std.specs.List.{All, flat_map, position, position_or_len, find, slice_get, list_any}
use Rattle.std.specs.Option.{option_and_then}
use Rattle.std.proofs.lemmas.Bool.Decides.{nat_tests}
use Rattle.std.proofs.lemmas.List.Elements.{All-head, All-tail, All-nil, All-append}
use Rattle.std.proofs.lemmas.List.Folds.{find_at, list_any-append}
use Rattle.std.proofs.lemmas.Option.{slice_get_past, slice_get_within, get_or_from_slice_get}
use Rattle.std.proofs.lemmas.List.{take_more, map-append, append-nil, append_assoc}
use Rattle.vrplib_model.specs.declared.section.Section.{Section}
use Rattle.vrplib_model.specs.declared.section.Section.TheVariants.{NodeCoord as node_coord_section, Demand as demand_section, Backhaul as backhaul_section, TimeWindow as time_window_section, ServiceTime as service_time_section, ReleaseTime as release_time_section, Prize as prize_section, EdgeWeight as edge_weight_section, Depot as depot_section, Group as group_section, Profile as profile_section, VehicleTypes as vehicle_types_section}
use Rattle.vrplib_model.specs.Sections.{is_by_node}
use Rattle.vrplib_model.specs.Numbers.{int_at, number_at}
use Rattle.vrplib_model.specs.Entries.{counted}
use Rattle.vrplib_model.specs.Checks.{contains}
use Rattle.std.specs.Prelude.{nat_abs}
use Rattle.std.proofs.lemmas.Int.{ints}
use Rattle.vrplib_model.specs.inside.FaultlessRows.{IsBetween, IsRow}
use Rattle.vrplib_model.specs.RowFaults.{nodes_named}

pub int_at_is : (k : ℕ) (row : List ℤ) → int_at k row ≡ get_or row k (pos 0)
int_at_is k [] = refl
int_at_is zero (z ∷ row) = refl
int_at_is (suc k) (z ∷ row) = int_at_is k row

-- two tests that agree on each element find the same one
length_same : {X Y : Type 0} (f : Y → X) (p : X → Bool) (q : Y → Bool) (ys : List Y) → All (λ y. p (f y) ≡ q y) ys →
    position_or_len p (map f ys) ≡ position_or_len q ys
length_same f p q [] each = refl
length_same f p q (y ∷ ys) each =
    rw (All-head (λ y. p (f y) ≡ q y) y ys each, length_same f p q ys (All-tail (λ y. p (f y) ≡ q y) y ys each)) refl

map_length : {X Y : Type 0} (f : Y → X) (ys : List Y) → length (map f ys) ≡ length ys
map_length f [] = refl
map_length f (y ∷ ys) = ap suc (map_length f ys)

pub position_same : {X Y : Type 0} (f : Y → X) (p : X → Bool) (q : Y → Bool) (ys : List Y) → All (λ y. p (f y) ≡ q y) ys →
    position p (map f ys) ≡ position q ys
position_same f p q ys each = rw (length_same f p q ys each, map_length f ys) refl

found_when : {X : Type 0} (p : X → Bool) (xs : List X) (b : Bool) → nat_lt (position_or_len p xs) (length xs) ≡ b →
    slice_get xs (position_or_len p xs) ≡ option_and_then (slice_get xs) (cond b (Some (position_or_len p xs)) None)
found_when p xs true e = refl
found_when p xs false e = slice_get_past xs (position_or_len p xs) (grind (arith, nat_tests))

-- the element at the first place that passes is the first that passes
pub found_at : {X : Type 0} (p : X → Bool) (xs : List X) → find p xs ≡ option_and_then (slice_get xs) (position p xs)
found_at p xs = find_at p xs ∙ found_when p xs (nat_lt (position_or_len p xs) (length xs)) refl

-- the first row of a node is the first whose number is the node's, where each row has one node
named_one : (s : Section) (row : List ℤ) → is_by_node s ≡ true → nodes_named s row ≡ number_at 0 row ∷ []
named_one node_coord_section row e = refl
named_one demand_section row e = refl
named_one backhaul_section row e = refl
named_one time_window_section row e = refl
named_one service_time_section row e = refl
named_one release_time_section row e = refl
named_one prize_section row e = refl
named_one edge_weight_section row e = cc
named_one depot_section row e = cc
named_one group_section row e = cc
named_one profile_section row e = cc
named_one vehicle_types_section row e = cc

or_false : (b : Bool) → (b || false) ≡ b
or_false true = refl
or_false false = refl

contains_one : (node m : ℕ) → contains node (m ∷ []) ≡ (m == node)
contains_one node m = or_false (m == node)

pub first_row : (s : Section) (node : ℕ) (rows : List (List ℤ)) → IsTrue (is_by_node s) →
    find (λ numbers. number_at 0 numbers == node) rows ≡ option_and_then (slice_get rows) (position (contains node) (map (nodes_named s) rows))
first_row s node rows h =
    let by_node : is_by_node s ≡ true = search rules in
    found_at (λ numbers. number_at 0 numbers == node) rows
    ∙ ap (option_and_then (slice_get rows)) (sym (position_same (nodes_named s) (contains node) (λ numbers. number_at 0 numbers == node) rows
    (λ k d within. ap (contains node) (named_one s (get_or rows k d) by_node) ∙ contains_one node (number_at 0 (get_or rows k d)))))

-- one more row, mapped
pub map_taken : {X Y : Type 0} (f : X → Y) (xs : List X) (k : ℕ) (x : X) → slice_get xs k ≡ Some x →
    map f (take (k + 1) xs) ≡ map f (take k xs) ++ f x ∷ []
map_taken f xs k x e =
    rw (take_more xs k x (slice_get_within xs k x e), get_or_from_slice_get xs k x x e) (map-append f (take k xs) (x ∷ []))

-- one more of numbers in a row, mapped
map_counted_suc : {X : Type 0} (f : ℕ → X) (a n j : ℕ) → a + n ≡ j → map f (counted a (suc n)) ≡ map f (counted a n) ++ f j ∷ []
map_counted_suc f a zero j e = ap (λ m. f m ∷ []) (omega (arith, e))
map_counted_suc f a (suc n) j e = ap (λ r. f a ∷ r) (map_counted_suc f (a + 1) n j (omega (arith, e)))

pub map_counted : {X : Type 0} (f : ℕ → X) (a n j : ℕ) → a + n ≡ j → map f (counted a (n + 1)) ≡ map f (counted a n) ++ f j ∷ []
map_counted f a n j e = ap (λ m. map f (counted a m)) (add-one n) ∙ map_counted_suc f a n j e

-- a number of a list whose numbers are within a bound
abs_within : (high : ℕ) (z : ℤ) → IsBetween 0 high z → nat_abs z ≤ high
abs_within high z b = omega (arith, ints, b.least, b.most)

pub number_within : (high k : ℕ) (row : List ℤ) → All (IsBetween 0 high) row → number_at k row ≤ high
number_within high k [] each = omega arith
number_within high zero (z ∷ row) each = abs_within high z (All-head (IsBetween 0 high) z row each)
number_within high (suc k) (z ∷ row) each = number_within high k row (All-tail (IsBetween 0 high) z row each)

-- one more of numbers in a row, each giving a list
flat_counted_suc : {X : Type 0} (f : ℕ → List X) (a n j : ℕ) → a + n ≡ j → flat_map f (counted a (suc n)) ≡ flat_map f (counted a n) ++ f j
flat_counted_suc f a zero j e = append-nil (f a) ∙ ap f (omega (arith, e))
flat_counted_suc f a (suc n) j e =
    ap (λ r. f a ++ r) (flat_counted_suc f (a + 1) n j (omega (arith, e))) ∙ sym (append_assoc (f a) (flat_map f (counted (a + 1) n)) (f j))

pub flat_counted : {X : Type 0} (f : ℕ → List X) (a n j : ℕ) → a + n ≡ j → flat_map f (counted a (n + 1)) ≡ flat_map f (counted a n) ++ f j
flat_counted f a n j e = ap (λ m. flat_map f (counted a m)) (add-one n) ∙ flat_counted_suc f a n j e

-- the weights in rows of weights
weights_within : (n : ℕ) (rows : List (List ℤ)) → All (IsRow edge_weight_section n) rows → All (IsBetween 0 (4 * 10 ^ 9)) (flat_map (λ row. row) rows)
weights_within n [] each = All-nil (IsBetween 0 (4 * 10 ^ 9))
weights_within n (row ∷ rows) each =
    All-append (IsBetween 0 (4 * 10 ^ 9)) row (flat_map (λ row. row) rows) (All-head (IsRow edge_weight_section n) row rows each)
    (weights_within n rows (All-tail (IsRow edge_weight_section n) row rows each))

pub weight_rows : (s : Section) (n : ℕ) (rows : List (List ℤ)) → s ≡ edge_weight_section → All (IsRow s n) rows →
    All (IsBetween 0 (4 * 10 ^ 9)) (flat_map (λ row. row) rows)
weight_rows s n rows is each = let P : Section → Type 0 = λ s. All (IsRow s n) rows in weights_within n rows (subst P is each)

-- tests of mapped elements
pub any_mapped : {X Y : Type 0} (p : Y → Bool) (f : X → Y) (xs : List X) → list_any p (map f xs) ≡ list_any (λ x. p (f x)) xs
any_mapped p f [] = refl
any_mapped p f (x ∷ xs) = rw (any_mapped p f xs) refl

-- tests of numbers in a row
or_true : (b : Bool) → (b || true) ≡ true
or_true true = refl
or_true false = refl

pub any_counted : (p : ℕ → Bool) (a n k j : ℕ) → k < n → a + k ≡ j → p j ≡ true → list_any p (counted a n) ≡ true
any_counted p a zero k j h e passes = absurd (omega (arith, h))
any_counted p a (suc n) zero j h e passes = ap (λ b. b || list_any p (counted (a + 1) n)) (ap p (omega (arith, e)) ∙ passes)
any_counted p a (suc n) (suc k) j h e passes = ap (λ b. p a || b) (any_counted p (a + 1) n k j (omega (arith, h)) (omega (arith, e)) passes) ∙ or_true (p a)

pub none_counted : (p : ℕ → Bool) (a n j : ℕ) → a + n ≡ j → list_any p (counted a n) ≡ false → p j ≡ false → list_any p (counted a (n + 1)) ≡ false
none_counted p a n j e before here =
    sym (any_mapped (λ b. b) p (counted a (n + 1))) ∙ ap (list_any (λ b. b)) (map_counted p a n j e) ∙ list_any-append (λ b. b) (map p (counted a n)) (p j ∷ [])
    ∙ rw (any_mapped (λ b. b) p (counted a n) ∙ before, here) refl
