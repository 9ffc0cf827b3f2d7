-- A row that names more nodes than there are names one of them twice.
use Rattle.std.proofs.Common.{◌≡◌, ◌+◌, ◌<◌, ◌≤◌, ℕ, Bool, true, false, not, ◌||◌, ◌&&◌, cond, eqb, ltb, List, [], ◌∷◌, ◌++◌, length, drop, refl, sym, ◌∙◌, ap, subst, inl, inr, arith, ℤ, Option, Some, None}
use Rattle.std.specs.Prelude.{flat_map, nat_abs, nat_le, nat_lt}
use Rattle.std.specs.List.{AllByRecursion, IsDistinct, list_any}
use Rattle.std.proofs.lemmas.Bool.{eqb-true, or_cases, or_left, or_parts, or_right, true_from_ne_false}
use Rattle.std.proofs.lemmas.List.{drop-append-le, length-append}
use Rattle.std.proofs.lemmas.List.Folds.{list_any-append}
use Rattle.std.proofs.lemmas.Map.Steps.{length-le_from_distinct_below}
use Rattle.vrplib_rows.specs.declared.long_row.Tail.{Tail}
use Rattle.vrplib_model.specs.declared.rule.Rule.{Rule}
use Rattle.vrplib_model.specs.declared.rule.Rule.TheVariants.{BadNode, BadVehicle, BadGroup, EmptyWindow}
use Rattle.vrplib_model.specs.Checks.{broken_if, contains, first_of, has_node_outside, has_repeated}
use Rattle.vrplib_rows.specs.inside.LongRows.{AreHead, IsTail, nodes_from}
use Rattle.vrplib_rows.specs.inside.NextRows.{numbers_fault}
use Rattle.vrplib_model.specs.Numbers.{number_at}
use Rattle.vrplib_model.specs.RowFaults.{has_bad_node, has_empty_window, has_other_reloads, is_bad_group, is_bad_vehicle, nodes_named}
use Rattle.vrplib_model.specs.Rows.{nodes_of}
use Rattle.vrplib_model.specs.declared.section.Section.{Section}
use Rattle.vrplib_model.specs.declared.section.Section.TheVariants.{Depot as depot_section, Group as group_section, VehicleTypes as vehicle_types_section}
use Rattle.vrplib_rows.proofs.Repeats.{eqb_same, or_false, repeated-append}
use Rattle.vrplib_model.proofs.RowBounds.{node-between}
use Rattle.vrplib_rows.proofs.RowNumbers.{int_at-get_or, nodes_of-append}

other_than : (x : ℕ) (xs : List ℕ) → contains x xs ≡ false → AllByRecursion (λ y. eqb x y ≡ false) xs
other_than x [] e = tt
other_than x (y ∷ ys) e = let parts = or_parts (eqb y x) (contains x ys) e in (eqb_same x y ∙ parts.0, other_than x ys parts.1)

distinct_from : (xs : List ℕ) → has_repeated xs ≡ false → IsDistinct eqb xs
unfolding IsDistinct
distinct_from [] e = tt
distinct_from (x ∷ xs) e = let parts = or_parts (contains x xs) (has_repeated xs) e in (other_than x xs parts.0, distinct_from xs parts.1)

below_from : (n : ℕ) (xs : List ℕ) → has_node_outside n xs ≡ false → (q : ℕ) → list_any (eqb q) xs ≡ true → q < n + 1
below_from n [] out q e = cc
below_from n (x ∷ xs) out q e =
    let found = node-between n x xs out in
    elim (or_cases (eqb q x) (list_any (eqb q) xs) e) [
      | inl here ↦ (let same : q ≡ x = eqb-true q x here in omega (arith, found.1))
      | inr later ↦ below_from n xs found.2 q later
    ]

-- of more nodes than there are, one comes again
pub too_many_nodes : (n : ℕ) (xs : List ℕ) → has_node_outside n xs ≡ false → n + 1 < length xs → has_repeated xs ≡ true
too_many_nodes n xs out many = true_from_ne_false (has_repeated xs) (λ e.
    let few : length xs ≤ n + 1 = length-le_from_distinct_below xs (n + 1) (distinct_from xs e) (below_from n xs out) in
    absurd (omega arith))

-- one number more behind the head
pub tail_more : (first n : ℕ) (row : List ℤ) (z : ℤ) (before after : Tail) → first ≤ length row → IsTail first n row before → after.count ≡ before.count + length (nodes_of (z ∷ []))
    → after.outside ≡ (before.outside || has_node_outside n (nodes_of (z ∷ []))) → IsTail first n (row ++ z ∷ []) after
tail_more first n row z before after h t c o =
    let more : nodes_of (drop first (row ++ z ∷ [])) ≡ nodes_of (drop first row) ++ nodes_of (z ∷ []) = ap nodes_of (drop-append-le first row (z ∷ []) h) ∙ nodes_of-append (drop first row) (z ∷ []) in
    record {
      count = c ∙ ap (λ m. m + length (nodes_of (z ∷ []))) t.count ∙ sym (length-append (nodes_of (drop first row)) (nodes_of (z ∷ []))) ∙ ap length (sym more);
      outside = o ∙ ap (λ b. b || has_node_outside n (nodes_of (z ∷ []))) t.outside ∙ sym (list_any-append _ (nodes_of (drop first row)) (nodes_of (z ∷ []))) ∙ ap (has_node_outside n) (sym more);
    }

repeated_with : (xs ys : List ℕ) → has_repeated xs ≡ true → has_repeated (xs ++ ys) ≡ true
repeated_with xs ys e = repeated-append xs ys ∙ or_left _ _ e

bad_node : (b : Bool) (more : List (Option Rule)) → b ≡ true → Some BadNode ≡ first_of (broken_if b BadNode ∷ more)
bad_node b more e = sym (ap (λ x. first_of (broken_if x BadNode ∷ more)) e)

pub depot_long : (n : ℕ) (row : List ℤ) (rows : List (List ℤ)) → has_node_outside n (nodes_of row) ≡ false → n + 1 < length (nodes_of row) → Some BadNode ≡ numbers_fault n depot_section row rows
depot_long n row rows out many =
    bad_node (has_bad_node n depot_section row rows) _ (or_right _ _ (repeated_with (nodes_of row) (flat_map (nodes_named depot_section) rows) (too_many_nodes n (nodes_of row) out many)))

group_rule : (bad group : Bool) → bad ≡ false → group ≡ true → Some BadGroup ≡ first_of (broken_if bad BadNode ∷ None ∷ None ∷ broken_if group BadGroup ∷ [])
group_rule bad group b g = sym (ap (λ x. first_of (broken_if x BadNode ∷ None ∷ None ∷ broken_if group BadGroup ∷ [])) b ∙ ap (λ x. first_of (broken_if x BadGroup ∷ [])) g)

pub group_long : (n : ℕ) (row : List ℤ) (rows : List (List ℤ)) → has_node_outside n (nodes_of (drop 1 row)) ≡ false → n + 1 < length (nodes_of (drop 1 row)) → Some BadGroup ≡ numbers_fault n group_section row rows
group_long n row rows out many =
    group_rule (has_bad_node n group_section row rows) (is_bad_group group_section row rows) (or_false (has_node_outside n (nodes_of (drop 1 row))) ∙ out)
    (or_right _ _ (repeated_with (nodes_of (drop 1 row)) (flat_map (nodes_named group_section) rows) (too_many_nodes n (nodes_of (drop 1 row)) out many)))

three_tests : (ends window : Bool) (more : List (Option Rule)) → Some (cond ends BadNode (cond window EmptyWindow BadVehicle)) ≡ first_of (broken_if ends BadNode ∷ broken_if window EmptyWindow ∷ broken_if true BadVehicle ∷ more)
three_tests true window more = refl
three_tests false true more = refl
three_tests false false more = refl

in_head : (head row : List ℤ) (k : ℕ) → AreHead head row → k < length head → number_at k head ≡ number_at k row
in_head head row k h lt = ap nat_abs (int_at-get_or k head ∙ h.each k lt ∙ sym (int_at-get_or k row))

tail_clear : (n a b : ℕ) (ns : List ℕ) → has_node_outside n ns ≡ false → has_node_outside n (a ∷ b ∷ ns) ≡ has_node_outside n (a ∷ b ∷ [])
tail_clear n a b ns e =
    let is_outside : ℕ → Bool = λ m. not (nat_lt 0 m && nat_le m n) in
    ap (λ x. is_outside a || (is_outside b || x)) e

pub type_long : (n : ℕ) (row head : List ℤ) (rows : List (List ℤ)) (rule : Rule) → AreHead head row → length head ≡ 14
    → rule ≡ cond (has_node_outside n (number_at 3 head ∷ number_at 4 head ∷ [])) BadNode (cond (has_empty_window vehicle_types_section head) EmptyWindow BadVehicle)
    → has_node_outside n (nodes_of (drop 14 row)) ≡ false → n + 1 < length (nodes_of (drop 14 row)) → Some rule ≡ numbers_fault n vehicle_types_section row rows
type_long n row head rows rule h long is out many =
    let ends : has_bad_node n vehicle_types_section row rows ≡ has_node_outside n (number_at 3 head ∷ number_at 4 head ∷ []) =
    or_false (has_node_outside n (nodes_named vehicle_types_section row))
    ∙ tail_clear n (number_at 3 row) (number_at 4 row) (nodes_of (drop 14 row)) out
    ∙ ap (λ m. has_node_outside n (m ∷ number_at 4 row ∷ [])) (sym (in_head head row 3 h (omega arith))) ∙ ap (λ m. has_node_outside n (number_at 3 head ∷ m ∷ [])) (sym (in_head head row 4 h (omega arith))) in
    let window : has_empty_window vehicle_types_section row ≡ has_empty_window vehicle_types_section head =
    ap (λ m. ltb m (number_at 8 row)) (sym (in_head head row 9 h (omega arith))) ∙ ap (λ m. ltb (number_at 9 head) m) (sym (in_head head row 8 h (omega arith))) in
    let vehicle : is_bad_vehicle vehicle_types_section row rows ≡ true = or_left _ (has_other_reloads (number_at 13 row) (drop 14 row)) (or_right _ _ (too_many_nodes n (nodes_of (drop 14 row)) out many)) in
    ap Some is ∙ three_tests _ _ _
    ∙ sym (ap (λ x. first_of (broken_if x BadNode ∷ broken_if (has_empty_window vehicle_types_section row) EmptyWindow ∷ broken_if (is_bad_vehicle vehicle_types_section row rows) BadVehicle ∷ None ∷ [])) ends
    ∙ ap (λ x. first_of (broken_if (has_node_outside n (number_at 3 head ∷ number_at 4 head ∷ [])) BadNode ∷ broken_if x EmptyWindow ∷ broken_if (is_bad_vehicle vehicle_types_section row rows) BadVehicle ∷ None ∷ [])) window
    ∙ ap (λ x. first_of (broken_if (has_node_outside n (number_at 3 head ∷ number_at 4 head ∷ [])) BadNode ∷ broken_if (has_empty_window vehicle_types_section head) EmptyWindow ∷ broken_if x BadVehicle ∷ None ∷ [])) vehicle)

some_same : (a b : ℕ) → Some a ≡ Some b → b ≡ a
some_same a b e = cc

pub depot_at : (s : Section) (first n : ℕ) (row : List ℤ) (rows : List (List ℤ)) (tail : Tail) → s ≡ depot_section → nodes_from s ≡ Some first → IsTail first n row tail → tail.outside ≡ false → n + 1 < tail.count
    → Some BadNode ≡ numbers_fault n s row rows
depot_at s first n row rows tail e from t out many =
    let From : Section → Type 0 = λ u. nodes_from u ≡ Some first in
    let Fault : Section → Type 0 = λ u. Some BadNode ≡ numbers_fault n u row rows in
    let Tails : ℕ → Type 0 = λ m. IsTail m n row tail in
    let there : IsTail 0 n row tail = subst Tails (some_same 0 first (subst From e from)) t in
    subst Fault (sym e) (depot_long n row rows (sym there.outside ∙ out) (omega (arith, there.count)))

pub group_at : (s : Section) (first n : ℕ) (row : List ℤ) (rows : List (List ℤ)) (tail : Tail) → s ≡ group_section → nodes_from s ≡ Some first → IsTail first n row tail → tail.outside ≡ false → n + 1 < tail.count
    → Some BadGroup ≡ numbers_fault n s row rows
group_at s first n row rows tail e from t out many =
    let From : Section → Type 0 = λ u. nodes_from u ≡ Some first in
    let Fault : Section → Type 0 = λ u. Some BadGroup ≡ numbers_fault n u row rows in
    let Tails : ℕ → Type 0 = λ m. IsTail m n row tail in
    let there : IsTail 1 n row tail = subst Tails (some_same 1 first (subst From e from)) t in
    subst Fault (sym e) (group_long n row rows (sym there.outside ∙ out) (omega (arith, there.count)))

pub type_at : (s : Section) (first n : ℕ) (row head : List ℤ) (rows : List (List ℤ)) (tail : Tail) (rule : Rule) → s ≡ vehicle_types_section → nodes_from s ≡ Some first → AreHead head row → length head ≡ 14 → IsTail first n row tail
    → tail.outside ≡ false → n + 1 < tail.count
    → rule ≡ cond (has_node_outside n (number_at 3 head ∷ number_at 4 head ∷ [])) BadNode (cond (has_empty_window vehicle_types_section head) EmptyWindow BadVehicle) → Some rule ≡ numbers_fault n s row rows
type_at s first n row head rows tail rule e from h long t out many is =
    let From : Section → Type 0 = λ u. nodes_from u ≡ Some first in
    let Fault : Section → Type 0 = λ u. Some rule ≡ numbers_fault n u row rows in
    let Tails : ℕ → Type 0 = λ m. IsTail m n row tail in
    let there : IsTail 14 n row tail = subst Tails (some_same 14 first (subst From e from)) t in
    subst Fault (sym e) (type_long n row head rows rule h long is (sym there.outside ∙ out) (omega (arith, there.count)))
