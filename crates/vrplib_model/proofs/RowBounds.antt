-- What a faultless row is: the bounds of its numbers.
use Rattle.std.proofs.Common.{◌≡◌, ℕ, zero, suc, ◌+◌, ◌-◌, ◌*◌, ◌^◌, ◌≤◌, ◌⊎◌, inl, inr, Bool, true, false, List, [], ◌∷◌, ◌++◌, length, drop, replicate, get_or, refl, sym, ◌∙◌, ap, subst, arith, ℤ, pos, negsuc, Option, Some, None, Result, Ok, Err}
use Rattle.std.specs.Prelude.{not, ◌&&◌, ◌==◌, nat_lt, nat_le, nat_abs, ◌≤ℤ◌, if◌then◌else◌, flat_map}
use Rattle.std.specs.List.{AllByRecursion, All, AllZip}
use Rattle.std.proofs.lemmas.Bool.{ltb-false, leb-true, eqb-true, or_parts, and_parts, not-false}
use Rattle.std.proofs.lemmas.Bool.Decides.{nat_tests}
use Rattle.std.proofs.lemmas.Int.{ints}
use Rattle.std.proofs.lemmas.List.{length-replicate}
use Rattle.std.proofs.lemmas.List.Elements.{All-from_recursion}
use Rattle.vrp_num.specs.declared.rounding.Rounding.{Rounding}
use Rattle.vrp_num.specs.Rounding.{rounded}
use Rattle.vrplib_model.specs.declared.rule.Rule.{Rule}
use Rattle.vrplib_model.specs.Numbers.{Field, number, exactly, whole, between, rounding, rounding_or, coordinate, node_or_end, ◌|>◌, number_in, is_minus_one, at_least_zero, as_whole, checked, as_number, held_value, field_value, field_values, first_broken, numbers, int_at, number_at}
use Rattle.vrplib_model.specs.Sections.{Section, node_coord_section, demand_section, backhaul_section, time_window_section, service_time_section, release_time_section, prize_section, edge_weight_section, depot_section, group_section, profile_section, vehicle_types_section}
use Rattle.vrplib_model.specs.Rows.{fields, row_numbers, nodes_of, vehicle_count}
use Rattle.vrplib_model.specs.RowFaults.{fault_of_row, has_right_length, excess, nodes_named, names_once, has_bad_node, has_empty_window, is_bad_vehicle, is_bad_group}
use Rattle.vrplib_model.specs.Checks.{broken_if, first_of, has_repeated, has_node_outside}
use Rattle.vrplib_model.specs.inside.FaultlessRows.{IsBetween, IsQuantityRow, IsCoordinateRow, IsWindowRow, IsProfileRow, IsTypeRow, IsRow}

-- steps that may fail
then-ok : {A B : Type 0} (r : Result A Rule) (f : A → Result B Rule) (y : B) → (r |> f) ≡ Ok y → (x : A) × (r ≡ Ok x) × (f x ≡ Ok y)
then-ok (Ok x) f y e = (x, refl, e)
then-ok (Err rule) f y e = absurd (cc)

number-ok : (r : Result ℕ Rule) (z : ℤ) → (r |> as_number) ≡ Ok z → (n : ℕ) × (r ≡ Ok n) × (z ≡ pos n)
number-ok r z e = let found = then-ok r as_number z e in (found.0, found.1, cc)

if-ok : {A : Type 0} (test : Bool) (rule : Rule) (n m : A) → ◌≡◌ {A = Result A Rule} (if test then Ok n else Err rule) (Ok m) → (test ≡ true) × (n ≡ m)
if-ok true rule n m e = (refl, cc)
if-ok false rule n m e = absurd (cc)

checked-ok : (r : Result ℕ Rule) (rule : Rule) (test : ℕ → Bool) (z : ℤ) → (r |> checked rule test |> as_number) ≡ Ok z → (n : ℕ) × (test n ≡ true) × (z ≡ pos n)
checked-ok r rule test z e =
    let found = number-ok (r |> checked rule test) z e in
    let before = then-ok r (checked rule test) found.0 found.1 in
    let passed = if-ok (test before.0) rule before.0 found.0 before.2 in
    (before.0, passed.0, cc)

-- what a number in a field is
abbrev pub IsInField : Field → ℤ → Type 0
IsInField number z = pos 0 ≤ℤ z
IsInField (exactly n) z = z ≡ pos n
IsInField (whole limit) z = IsBetween 0 limit z
IsInField (between low high) z = IsBetween low high z
IsInField (rounding limit) z = IsBetween 0 limit z
IsInField (rounding_or limit other) z = IsBetween 0 limit z ⊎ (z ≡ pos other)
IsInField coordinate z = nat_abs z ≤ 10 ^ 12
IsInField node_or_end z = (z ≡ negsuc 0) ⊎ (pos 0 ≤ℤ z)

between-at : (low high n : ℕ) (z : ℤ) → z ≡ pos n → low ≤ n → n ≤ high → IsBetween low high z
between-at low high n z e least most = subst (IsBetween low high) (sym e) (record { least = omega (arith, ints); most = omega (arith, ints) })

at_least_zero-at : (n : ℕ) (z : ℤ) → z ≡ pos n → pos 0 ≤ℤ z
at_least_zero-at n z e = subst (λ (w : ℤ). pos 0 ≤ℤ w) (sym e) (omega (arith, ints))

rounded-ok : (mode : Rounding) (rule : Rule) (limit : ℕ) (r : Result ℕ Rule) (z : ℤ)
    → (r |> (λ micro. checked rule (λ n. nat_le n limit) (rounded mode micro)) |> as_number) ≡ Ok z → IsBetween 0 limit z
rounded-ok mode rule limit r z e =
    let found = number-ok (r |> (λ micro. checked rule (λ n. nat_le n limit) (rounded mode micro))) z e in
    let before = then-ok r (λ micro. checked rule (λ n. nat_le n limit) (rounded mode micro)) found.0 found.1 in
    let passed = if-ok (nat_le (rounded mode before.0) limit) rule (rounded mode before.0) found.0 before.2 in
    between-at 0 limit (rounded mode before.0) z (cc) (omega arith) (leb-true _ _ passed.0)

or_else-ok : (mode : Rounding) (rule : Rule) (limit other : ℕ) (w z : ℤ) (is_end : Bool)
    → (if is_end then as_number other else (at_least_zero w |> (λ micro. checked rule (λ n. nat_le n limit) (rounded mode micro)) |> as_number)) ≡ Ok z
    → IsBetween 0 limit z ⊎ (z ≡ pos other)
or_else-ok mode rule limit other w z true e = inr (cc)
or_else-ok mode rule limit other w z false e = inl (rounded-ok mode rule limit (at_least_zero w) z e)

node-ok : (w z : ℤ) (is_end : Bool) → (if is_end then Ok (negsuc 0) else (at_least_zero w |> as_whole |> as_number)) ≡ Ok z → (z ≡ negsuc 0) ⊎ (pos 0 ≤ℤ z)
node-ok w z true e = inl (cc)
node-ok w z false e = let found = number-ok (at_least_zero w |> as_whole) z e in inr (at_least_zero-at found.0 z found.2)

-- a number that a field holds is in its bounds
held-bound : (mode : Rounding) (f : Field) (w z : ℤ) → held_value mode f w ≡ Ok z → IsInField f z
held-bound mode number w z e =
    let found = number-ok (at_least_zero w |> as_whole) z e in
    at_least_zero-at found.0 z found.2
held-bound mode (exactly n) w z e =
    let found = checked-ok (at_least_zero w |> as_whole) _ (λ m. m == n) z e in
    found.2 ∙ ap pos (eqb-true _ _ found.1)
held-bound mode (whole limit) w z e =
    let found = checked-ok (at_least_zero w |> as_whole) _ (λ m. nat_le m limit) z e in
    between-at 0 limit found.0 z found.2 (omega arith) (leb-true _ _ found.1)
held-bound mode (between low high) w z e =
    let found = checked-ok (at_least_zero w |> as_whole) _ (λ m. nat_le low m && nat_le m high) z e in
    let both = and_parts (nat_le low found.0) (nat_le found.0 high) found.1 in
    between-at low high found.0 z found.2 (leb-true _ _ both.0) (leb-true _ _ both.1)
held-bound mode (rounding limit) w z e = rounded-ok mode _ limit (at_least_zero w) z e
held-bound mode (rounding_or limit other) w z e = or_else-ok mode _ limit other w z (is_minus_one w) e
held-bound mode coordinate w z e =
    let passed = if-ok (nat_le (nat_abs w) (10 ^ 12)) _ w z e in
    subst (λ (w : ℤ). nat_abs w ≤ 10 ^ 12) passed.1 (leb-true _ _ passed.0)
held-bound mode node_or_end w z e = node-ok w z (is_minus_one w) e

-- the number of a token in a field is in its bounds
pub field-bound : (mode : Rounding) (f : Field) (token : List ℕ) (z : ℤ) → field_value mode f token ≡ Ok z → IsInField f z
unfolding field_value
field-bound mode f token z e =
    let found = then-ok (number_in f token) (held_value mode f) z e in
    held-bound mode f found.0 z found.2

-- the checks, one by one
pub first_of-cons : (check : Option Rule) (rest : List (Option Rule)) → first_of (check ∷ rest) ≡ None → (check ≡ None) × (first_of rest ≡ None)
first_of-cons None rest e = (refl, e)
first_of-cons (Some rule) rest e = absurd (cc)

pub broken_if-none : (test : Bool) (rule : Rule) → broken_if test rule ≡ None → test ≡ false
broken_if-none true rule e = absurd (cc)
broken_if-none false rule e = refl

-- the numbers of a row are in their fields
abbrev pub AreInFields : List Field → List ℤ → Type 0
AreInFields fs zs = AllZip IsInField fs zs

value-in : (f : Field) (fs : List Field) (value : Result ℤ Rule) (values : List (Result ℤ Rule)) → ((z : ℤ) → value ≡ Ok z → IsInField f z)
    → (first_broken values ≡ None → AreInFields fs (numbers values)) → first_broken (value ∷ values) ≡ None → AreInFields (f ∷ fs) (numbers (value ∷ values))
value-in f fs (Ok z) values here later e = (here z refl, later e)
value-in f fs (Err rule) values here later e = absurd (cc)

pub values-in : (mode : Rounding) (fs : List Field) (tokens : List (List ℕ)) → length tokens ≡ length fs → first_broken (field_values mode fs tokens) ≡ None
    → AreInFields fs (numbers (field_values mode fs tokens))
values-in mode [] tokens same e = tt
values-in mode (f ∷ fs) [] same e = absurd (omega arith)
values-in mode (f ∷ fs) (token ∷ tokens) same e =
    value-in f fs (field_value mode f token) (field_values mode fs tokens) (field-bound mode f token)
    (values-in mode fs tokens (omega arith)) e

pub length-in : (fs : List Field) (zs : List ℤ) → AreInFields fs zs → length zs ≡ length fs
length-in [] [] all = refl
length-in [] (z ∷ zs) all = elim all [ ]
length-in (f ∷ fs) [] all = elim all [ ]
length-in (f ∷ fs) (z ∷ zs) all = let rest = length-in fs zs all.1 in omega (arith, rest)

pub at-in : (k : ℕ) (fs : List Field) (zs : List ℤ) → AreInFields fs zs → IsInField (get_or fs k number) (int_at k zs)
at-in k [] [] all = omega (arith, ints)
at-in k [] (z ∷ zs) all = elim all [ ]
at-in k (f ∷ fs) [] all = elim all [ ]
at-in zero (f ∷ fs) (z ∷ zs) all = all.0
at-in (suc k) (f ∷ fs) (z ∷ zs) all = at-in k fs zs all.1

pub drop-in : (k : ℕ) (fs : List Field) (zs : List ℤ) → AreInFields fs zs → AreInFields (drop k fs) (drop k zs)
drop-in zero fs zs all = all
drop-in (suc k) [] [] all = tt
drop-in (suc k) [] (z ∷ zs) all = elim all [ ]
drop-in (suc k) (f ∷ fs) [] all = elim all [ ]
drop-in (suc k) (f ∷ fs) (z ∷ zs) all = drop-in k fs zs all.1

pub same-in : (f : Field) (n : ℕ) (zs : List ℤ) → AreInFields (replicate n f) zs → AllByRecursion (IsInField f) zs
same-in f zero [] all = tt
same-in f zero (z ∷ zs) all = elim all [ ]
same-in f (suc n) [] all = elim all [ ]
same-in f (suc n) (z ∷ zs) all = (all.0, same-in f n zs all.1)

-- the nodes that a row names
one-between : (n m : ℕ) → not (nat_lt 0 m && nat_le m n) ≡ false → (1 ≤ m) × (m ≤ n)
one-between n m e = grind (arith, nat_tests)

pub node-between : (n m : ℕ) (rest : List ℕ) → has_node_outside n (m ∷ rest) ≡ false → (1 ≤ m) × (m ≤ n) × (has_node_outside n rest ≡ false)
node-between n m rest e =
    let parts = or_parts (not (nat_lt 0 m && nat_le m n)) (has_node_outside n rest) e in
    let here = one-between n m parts.0 in
    (here.0, here.1, parts.1)

-- a number that isn't negative, by its size
pub by_size : (low high : ℕ) (z : ℤ) → pos 0 ≤ℤ z → low ≤ nat_abs z → nat_abs z ≤ high → IsBetween low high z
by_size low high (pos n) h least most = record { least = omega (arith, ints); most = omega (arith, ints) }
by_size low high (negsuc n) h least most = absurd (omega (arith, ints))

pub nodes-between : (n : ℕ) (zs : List ℤ) → AllByRecursion (λ z. pos 0 ≤ℤ z) zs → has_node_outside n (nodes_of zs) ≡ false → AllByRecursion (IsBetween 1 n) zs
nodes-between n [] all e = tt
nodes-between n (negsuc m ∷ zs) all e = absurd (omega (arith, ints, all.0))
nodes-between n (pos m ∷ zs) all e =
    let found = node-between n m (nodes_of zs) e in
    (between-at 1 n m (pos m) refl found.0 found.1, nodes-between n zs all.1 found.2)

only_end : (n m : ℕ) → IsInField node_or_end (negsuc m) → (negsuc m ≡ negsuc 0) ⊎ IsBetween 1 n (negsuc m)
only_end n m (inl e) = inl e
only_end n m (inr h) = absurd (omega (arith, ints))

pub stops-between : (n : ℕ) (zs : List ℤ) → AllByRecursion (IsInField node_or_end) zs → has_node_outside n (nodes_of zs) ≡ false
    → AllByRecursion (λ z. (z ≡ negsuc 0) ⊎ IsBetween 1 n z) zs
stops-between n [] all e = tt
stops-between n (negsuc m ∷ zs) all e = (only_end n m all.0, stops-between n zs all.1 e)
stops-between n (pos m ∷ zs) all e =
    let found = node-between n m (nodes_of zs) e in
    (inr (between-at 1 n m (pos m) refl found.0 found.1), stops-between n zs all.1 found.2)

-- a row that fails no check
pub record IsFaultless (mode : Rounding) (s : Section) (tokens : List (List ℕ)) (nodes weights : ℕ) (rows : List (List ℤ)) : Type 0 where
  pub right_length : has_right_length s tokens ≡ true
  pub within : excess s tokens nodes weights rows ≡ None
  pub unbroken : first_broken (field_values mode (fields s rows (length tokens)) tokens) ≡ None
  pub good_node : has_bad_node nodes s (row_numbers mode s rows tokens) rows ≡ false
  pub open_window : has_empty_window s (row_numbers mode s rows tokens) ≡ false
  pub good_vehicle : is_bad_vehicle s (row_numbers mode s rows tokens) rows ≡ false
  pub good_group : is_bad_group s (row_numbers mode s rows tokens) rows ≡ false

pub faultless-row : (mode : Rounding) (s : Section) (tokens : List (List ℕ)) (nodes weights : ℕ) (rows : List (List ℤ))
    → fault_of_row mode s tokens nodes weights rows ≡ None → IsFaultless mode s tokens nodes weights rows
unfolding fault_of_row
faultless-row mode s tokens nodes weights rows e =
    let length_first = first_of-cons _ _ e in
    let within_next = first_of-cons _ _ length_first.1 in
    let broken_next = first_of-cons _ _ within_next.1 in
    let node_next = first_of-cons _ _ broken_next.1 in
    let window_next = first_of-cons _ _ node_next.1 in
    let vehicle_next = first_of-cons _ _ window_next.1 in
    let group_next = first_of-cons _ _ vehicle_next.1 in
    record {
      right_length = not-false _ (broken_if-none _ _ length_first.0);
      within = within_next.0;
      unbroken = broken_next.0;
      good_node = broken_if-none _ _ node_next.0;
      open_window = broken_if-none _ _ window_next.0;
      good_vehicle = broken_if-none _ _ vehicle_next.0;
      good_group = broken_if-none _ _ group_next.0;
    }

-- each token has a field
fields-fit : (s : Section) (rows : List (List ℤ)) (tokens : List (List ℕ)) → has_right_length s tokens ≡ true → length tokens ≡ length (fields s rows (length tokens))
fields-fit node_coord_section rows tokens e = eqb-true _ _ e
fields-fit demand_section rows tokens e = eqb-true _ _ e
fields-fit backhaul_section rows tokens e = eqb-true _ _ e
fields-fit time_window_section rows tokens e = eqb-true _ _ e
fields-fit service_time_section rows tokens e = eqb-true _ _ e
fields-fit release_time_section rows tokens e = eqb-true _ _ e
fields-fit prize_section rows tokens e = eqb-true _ _ e
fields-fit edge_weight_section rows tokens e = sym (length-replicate (length tokens) (rounding (4 * 10 ^ 9)))
fields-fit depot_section rows tokens e = sym (length-replicate (length tokens) node_or_end)
fields-fit group_section rows tokens e = sym (length-replicate (length tokens) number)
fields-fit profile_section rows tokens e = eqb-true _ _ e
fields-fit vehicle_types_section rows tokens e =
    omega (arith, leb-true _ _ e, length-replicate (length tokens - 14) number)

-- what the numbers of a faultless row are
pub numbers-in : (mode : Rounding) (s : Section) (tokens : List (List ℕ)) (nodes weights : ℕ) (rows : List (List ℤ)) → IsFaultless mode s tokens nodes weights rows
    → AreInFields (fields s rows (length tokens)) (row_numbers mode s rows tokens)
numbers-in mode s tokens nodes weights rows h =
    values-in mode (fields s rows (length tokens)) tokens (fields-fit s rows tokens h.right_length) h.unbroken

first-node : (n : ℕ) (zs : List ℤ) → pos 0 ≤ℤ int_at 0 zs → has_node_outside n (number_at 0 zs ∷ []) ≡ false → IsBetween 1 n (int_at 0 zs)
first-node n zs h e = let found = node-between n (number_at 0 zs) [] e in by_size 1 n (int_at 0 zs) h found.0 found.1

quantity-row : (n : ℕ) (f : Field) (zs : List ℤ) → ((z : ℤ) → IsInField f z → IsBetween 0 (10 ^ 12) z) → AreInFields (number ∷ f ∷ []) zs
    → has_node_outside n (number_at 0 zs ∷ []) ≡ false → IsQuantityRow n zs
quantity-row n f zs quantity all e = record {
  two = length-in (number ∷ f ∷ []) zs all;
  node = first-node n zs (at-in 0 (number ∷ f ∷ []) zs all) e;
  quantity = quantity (int_at 1 zs) (at-in 1 (number ∷ f ∷ []) zs all);
}

coordinate-row : (n : ℕ) (zs : List ℤ) → AreInFields (number ∷ coordinate ∷ coordinate ∷ []) zs → has_node_outside n (number_at 0 zs ∷ []) ≡ false → IsCoordinateRow n zs
coordinate-row n zs all e = record {
  three = length-in (number ∷ coordinate ∷ coordinate ∷ []) zs all;
  node = first-node n zs (at-in 0 (number ∷ coordinate ∷ coordinate ∷ []) zs all) e;
  x = at-in 1 (number ∷ coordinate ∷ coordinate ∷ []) zs all;
  y = at-in 2 (number ∷ coordinate ∷ coordinate ∷ []) zs all;
}

window-row : (n : ℕ) (zs : List ℤ) → AreInFields (number ∷ rounding (10 ^ 12) ∷ rounding (10 ^ 12) ∷ []) zs → has_node_outside n (number_at 0 zs ∷ []) ≡ false
    → nat_lt (number_at 2 zs) (number_at 1 zs) ≡ false → IsWindowRow n zs
window-row n zs all e opened = record {
  three = length-in (number ∷ rounding (10 ^ 12) ∷ rounding (10 ^ 12) ∷ []) zs all;
  node = first-node n zs (at-in 0 (number ∷ rounding (10 ^ 12) ∷ rounding (10 ^ 12) ∷ []) zs all) e;
  early = at-in 1 (number ∷ rounding (10 ^ 12) ∷ rounding (10 ^ 12) ∷ []) zs all;
  late = at-in 2 (number ∷ rounding (10 ^ 12) ∷ rounding (10 ^ 12) ∷ []) zs all;
  ordered = ltb-false _ _ opened;
}

profile-row : (before : ℕ) (zs : List ℤ) → AreInFields (exactly before ∷ whole 10000 ∷ whole 10000 ∷ []) zs → IsProfileRow zs
profile-row before zs all = record {
  three = length-in (exactly before ∷ whole 10000 ∷ whole 10000 ∷ []) zs all;
  distance = at-in 1 (exactly before ∷ whole 10000 ∷ whole 10000 ∷ []) zs all;
  duration = at-in 2 (exactly before ∷ whole 10000 ∷ whole 10000 ∷ []) zs all;
}

rest-all : (P : ℤ → Type 0) (zs : List ℤ) → AllByRecursion P zs → AllByRecursion P (drop 1 zs)
rest-all P [] all = tt
rest-all P (z ∷ zs) all = all.1

group-row : (n count : ℕ) (zs : List ℤ) → 2 ≤ count → AreInFields (replicate count number) zs → has_node_outside n (nodes_of (drop 1 zs)) ≡ false
    → (2 ≤ length zs) × All (IsBetween 1 n) (drop 1 zs)
group-row n count zs long all e =
    let long : 2 ≤ length zs = omega (arith, length-in (replicate count number) zs all, length-replicate count number) in
    let rest : AllByRecursion (λ z. pos 0 ≤ℤ z) (drop 1 zs) = rest-all (λ z. pos 0 ≤ℤ z) zs (same-in number count zs all) in
    (long, All-from_recursion (IsBetween 1 n) (drop 1 zs) (nodes-between n (drop 1 zs) rest e))

wider : (low high wide : ℕ) (z : ℤ) → high ≤ wide → IsBetween low high z → IsBetween low wide z
wider low high wide z h b = record { least = b.least; most = omega (arith, ints, b.most, h) }

late_is : (z : ℤ) → IsInField (rounding_or (10 ^ 12) (10 ^ 12)) z → IsBetween 0 (10 ^ 12) z
late_is z (inl h) = h
late_is z (inr e) = between-at 0 (10 ^ 12) (10 ^ 12) z e (omega arith) (omega arith)

type-row : (n : ℕ) (rows : List (List ℤ)) (count : ℕ) (zs : List ℤ) → AreInFields (fields vehicle_types_section rows count) zs
    → has_node_outside n (nodes_named vehicle_types_section zs) ≡ false → nat_lt (number_at 9 zs) (number_at 8 zs) ≡ false → IsTypeRow n zs
type-row n rows count zs all e opened =
    let fs = fields vehicle_types_section rows count in
    let starts = node-between n (number_at 3 zs) (number_at 4 zs ∷ nodes_of (drop 14 zs)) e in
    let ends = node-between n (number_at 4 zs) (nodes_of (drop 14 zs)) starts.2 in
    record {
      long = omega (arith, length-in fs zs all);
      count = wider 1 (2048 - vehicle_count rows) 2048 (int_at 1 zs) (omega arith) (at-in 1 fs zs all);
      capacity = at-in 2 fs zs all;
      start = by_size 1 n (int_at 3 zs) (at-in 3 fs zs all) starts.0 starts.1;
      end = by_size 1 n (int_at 4 zs) (at-in 4 fs zs all) ends.0 ends.1;
      fixed = at-in 5 fs zs all;
      unit_distance = at-in 6 fs zs all;
      unit_duration = at-in 7 fs zs all;
      early = at-in 8 fs zs all;
      late = late_is (int_at 9 zs) (at-in 9 fs zs all);
      ordered = ltb-false _ _ opened;
      max_duration = at-in 10 fs zs all;
      max_distance = at-in 11 fs zs all;
      profile = at-in 12 fs zs all;
      reloads = at-in 13 fs zs all;
      depots = All-from_recursion (IsBetween 1 n) (drop 14 zs) (nodes-between n (drop 14 zs) (same-in number (count - 14) (drop 14 zs) (drop-in 14 fs zs all)) ends.2);
    }

-- the nodes of a faultless row are there
pub nodes-there : (mode : Rounding) (s : Section) (tokens : List (List ℕ)) (nodes weights : ℕ) (rows : List (List ℤ)) → IsFaultless mode s tokens nodes weights rows
    → has_node_outside nodes (nodes_named s (row_numbers mode s rows tokens)) ≡ false
nodes-there mode s tokens nodes weights rows h =
    let numbers = row_numbers mode s rows tokens in
    (or_parts (has_node_outside nodes (nodes_named s numbers)) (names_once s && has_repeated (nodes_named s numbers ++ flat_map (nodes_named s) rows)) h.good_node).0

row-from : (s : Section) (tokens : List (List ℕ)) (n : ℕ) (rows : List (List ℤ)) (zs : List ℤ) → has_right_length s tokens ≡ true → AreInFields (fields s rows (length tokens)) zs
    → has_node_outside n (nodes_named s zs) ≡ false → has_empty_window s zs ≡ false → IsRow s n zs
row-from node_coord_section tokens n rows zs right all e opened = coordinate-row n zs all e
row-from demand_section tokens n rows zs right all e opened = quantity-row n (whole (10 ^ 12)) zs (λ z h. h) all e
row-from backhaul_section tokens n rows zs right all e opened = quantity-row n (whole (10 ^ 12)) zs (λ z h. h) all e
row-from time_window_section tokens n rows zs right all e opened = window-row n zs all e opened
row-from service_time_section tokens n rows zs right all e opened = quantity-row n (rounding (10 ^ 12)) zs (λ z h. h) all e
row-from release_time_section tokens n rows zs right all e opened = quantity-row n (rounding (10 ^ 12)) zs (λ z h. h) all e
row-from prize_section tokens n rows zs right all e opened = quantity-row n (rounding (10 ^ 12)) zs (λ z h. h) all e
row-from edge_weight_section tokens n rows zs right all e opened =
    All-from_recursion (IsBetween 0 (4 * 10 ^ 9)) zs (same-in (rounding (4 * 10 ^ 9)) (length tokens) zs all)
row-from depot_section tokens n rows zs right all e opened =
    All-from_recursion (λ z. (z ≡ negsuc 0) ⊎ IsBetween 1 n z) zs (stops-between n zs (same-in node_or_end (length tokens) zs all) e)
row-from group_section tokens n rows zs right all e opened = group-row n (length tokens) zs (leb-true _ _ right) all e
row-from profile_section tokens n rows zs right all e opened = profile-row (length rows + 1) zs all
row-from vehicle_types_section tokens n rows zs right all e opened = type-row n rows (length tokens) zs all e opened

-- a faultless row is a row of its section
pub row-is : (mode : Rounding) (s : Section) (tokens : List (List ℕ)) (nodes weights : ℕ) (rows : List (List ℤ))
    → fault_of_row mode s tokens nodes weights rows ≡ None → IsRow s nodes (row_numbers mode s rows tokens)
row-is mode s tokens nodes weights rows e =
    let h = faultless-row mode s tokens nodes weights rows e in
    row-from s tokens nodes rows (row_numbers mode s rows tokens) h.right_length (numbers-in mode s tokens nodes weights rows h)
    (nodes-there mode s tokens nodes weights rows h) h.open_window
