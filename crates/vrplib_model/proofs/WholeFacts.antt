-- What a text gives that passes each check as a whole, and the bounds of its keywords' values.
use Rattle.std.proofs.Common.{◌≡◌, ℕ, zero, suc, ◌+◌, ◌<◌, ◌≤◌, Bool, false, List, [], ◌∷◌, length, get_or, map, refl, ◌∙◌, ap, arith, ℤ, Option, Some, None, Result, Ok, Err}
use Rattle.std.specs.Prelude.{◌&&◌, ◌||◌, nat_lt, nat_le, nat_abs, unwrap_or, option_and_then, bytes_eq, slice_get}
use Rattle.std.specs.List.{AllByRecursion, list_any, range_with_len}
use Rattle.std.proofs.lemmas.Bool.{ltb-true, leb-true, and_parts, or_parts, not-false}
use Rattle.std.proofs.lemmas.Int.{ints}
use Rattle.std.proofs.lemmas.List.{get_or-map}
use Rattle.std.proofs.lemmas.List.FromFn.{length-range_with_len, get_or-range_with_len}
use Rattle.std.proofs.lemmas.Option.{unwrap_or-slice_get}
use Rattle.std.proofs.lemmas.Slice.Eq.{bytes_eq-Decides}
use Rattle.vrp_num.specs.declared.rounding.Rounding.{Rounding}
use Rattle.vrplib_model.specs.declared.rule.Rule.{Rule}
use Rattle.vrplib_model.specs.declared.rule.Rule.TheVariants.{BadDepot, BadVehicle, BadGroup, EmptyWindow, Limit}
use Rattle.vrplib_model.specs.LineKinds.{Line}
use Rattle.vrplib_model.specs.Keywords.{dimension}
use Rattle.vrplib_model.specs.Numbers.{Field, between, field_value}
use Rattle.vrplib_model.specs.Values.{size_of, token_number, node_count, value_tokens}
use Rattle.vrplib_model.specs.Checks.{broken_if}
use Rattle.vrplib_model.specs.Entries.{counted, depot_nodes, depot_count}
use Rattle.vrplib_model.specs.Fleet.{types}
use Rattle.vrplib_model.specs.Legs.{profiles}
use Rattle.vrplib_model.specs.Meaning.{groups}
use Rattle.vrplib_model.specs.inside.FaultlessRows.{IsBetween}
use Rattle.vrplib_model.specs.WholeText.{missing_key, has_other_depots, is_client_like, is_depot_place, has_wrong_reference, has_missed_shift, has_long_leg, whole_fault}
use Rattle.vrplib_model.proofs.RowBounds.{IsInField, field-bound, first_of-cons, broken_if-none}

pub between-size : (low high : ℕ) (z : ℤ) → IsBetween low high z → (low ≤ nat_abs z) × (nat_abs z ≤ high)
between-size low high z b = (omega (arith, ints, b.least, b.most), omega (arith, ints, b.least, b.most))

-- what holds of each number that a keyword's field allows, and of the number that stands where none is given
size-holds : (P : ℕ → Type 0) (other : ℕ) (value : Result ℤ Rule) → ((z : ℤ) → value ≡ Ok z → P (nat_abs z)) → P other → P (unwrap_or (size_of value) other)
size-holds P other (Ok z) each rest = each z refl
size-holds P other (Err rule) each rest = rest

pub value-holds : (mode : Rounding) (f : Field) (P : ℕ → Type 0) (other : ℕ) (value : Option (List (List ℕ))) → ((z : ℤ) → IsInField f z → P (nat_abs z)) → P other
    → P (unwrap_or (option_and_then (token_number mode f) value) other)
value-holds mode f P other None each rest = rest
value-holds mode f P other (Some []) each rest = rest
value-holds mode f P other (Some (token ∷ tokens)) each rest =
    size-holds P other (field_value mode f token) (λ z e. each z (field-bound mode f token z e)) rest

pub few-nodes : (mode : Rounding) (lines : List Line) → node_count mode lines ≤ 2048
few-nodes mode lines =
    value-holds mode (between 2 2048) (λ n. n ≤ 2048) 0 (value_tokens dimension lines) (λ z b. (between-size 2 2048 z b).1) (omega arith)

-- no element passes
pub none-pass : {X : Type 0} (test : X → Bool) (xs : List X) → list_any test xs ≡ false → AllByRecursion (λ x. test x ≡ false) xs
none-pass test [] e = tt
none-pass test (x ∷ xs) e = let parts = or_parts (test x) (list_any test xs) e in (parts.0, none-pass test xs parts.1)

-- what follows for each element
pub each-then : {X : Type 0} (P Q : X → Type 0) (xs : List X) → AllByRecursion (λ x. P x → Q x) xs → AllByRecursion P xs → AllByRecursion Q xs
each-then P Q [] steps all = tt
each-then P Q (x ∷ xs) steps all = (steps.0 all.0, each-then P Q xs steps.1 all.1)

pub each-made : {X Y : Type 0} (P : X → Type 0) (f : Y → X) (ys : List Y) → ((y : Y) → P (f y)) → AllByRecursion P (map f ys)
each-made P f [] each = tt
each-made P f (y ∷ ys) each = (each y, each-made P f ys each)

pub each-of : {X : Type 0} (P : X → Type 0) (xs : List X) → ((x : X) → P x) → AllByRecursion P xs
each-of P [] each = tt
each-of P (x ∷ xs) each = (each x, each-of P xs each)

-- the text passes each check as a whole
pub record PassesWhole (mode : Rounding) (all : List Line) : Type 0 where
  pub depots : depot_nodes mode all ≡ counted 1 (depot_count mode all)
  pub some_depot : 1 ≤ depot_count mode all
  pub some_client : depot_count mode all < node_count mode all
  pub references : AllByRecursion (λ t. has_wrong_reference (depot_count mode all) (length (profiles mode all)) t ≡ false) (types mode all)
  pub members : AllByRecursion (λ members. list_any (is_depot_place (depot_count mode all)) members ≡ false) (groups mode all)
  pub shifts : AllByRecursion (λ t. has_missed_shift mode all t ≡ false) (types mode all)
  pub legs : AllByRecursion (λ p. has_long_leg p ≡ false) (profiles mode all)

pub passes-whole : (mode : Rounding) (all : List Line) → whole_fault mode all ≡ None → PassesWhole mode all
unfolding whole_fault
passes-whole mode all e =
    let d = depot_count mode all in
    let other = has_other_depots mode all in
    let client_like = list_any (is_client_like mode all) (depot_nodes mode all) in
    let reference = list_any (has_wrong_reference d (length (profiles mode all))) (types mode all) in
    let member = list_any (list_any (is_depot_place d)) (groups mode all) in
    let shift = list_any (has_missed_shift mode all) (types mode all) in
    let leg = list_any has_long_leg (profiles mode all) in
    let on_leg : List (Option Rule) = broken_if leg Limit ∷ [] in
    let on_shift : List (Option Rule) = broken_if shift EmptyWindow ∷ on_leg in
    let on_member : List (Option Rule) = broken_if member BadGroup ∷ on_shift in
    let on_reference : List (Option Rule) = broken_if reference BadVehicle ∷ on_member in
    let on_depot : List (Option Rule) = broken_if (other || client_like) BadDepot ∷ on_reference in
    let found = first_of-cons (missing_key all) on_depot e in
    let placed = first_of-cons (broken_if (other || client_like) BadDepot) on_reference found.1 in
    let referred = first_of-cons (broken_if reference BadVehicle) on_member placed.1 in
    let grouped = first_of-cons (broken_if member BadGroup) on_shift referred.1 in
    let met = first_of-cons (broken_if shift EmptyWindow) on_leg grouped.1 in
    let short = first_of-cons (broken_if leg Limit) [] met.1 in
    let depots = (or_parts other client_like (broken_if-none (other || client_like) BadDepot placed.0)).0 in
    let listed = bytes_eq (depot_nodes mode all) (counted 1 d) in
    let there = and_parts (listed && nat_le 1 d) (nat_lt d (node_count mode all)) (not-false _ depots) in
    let first = and_parts listed (nat_le 1 d) there.0 in
    record {
      depots = (bytes_eq-Decides (depot_nodes mode all) (counted 1 d)).0 first.0;
      some_depot = leb-true 1 d first.1;
      some_client = ltb-true d (node_count mode all) there.1;
      references = none-pass (has_wrong_reference d (length (profiles mode all))) (types mode all) (broken_if-none reference BadVehicle referred.0);
      members = none-pass (list_any (is_depot_place d)) (groups mode all) (broken_if-none member BadGroup grouped.0);
      shifts = none-pass (has_missed_shift mode all) (types mode all) (broken_if-none shift EmptyWindow met.0);
      legs = none-pass has_long_leg (profiles mode all) (broken_if-none leg Limit short.0);
    }

-- numbers that follow one another
counted-is : (first count : ℕ) → counted first count ≡ range_with_len first count
counted-is first zero = refl
counted-is first (suc count) = ap (λ rest. first ∷ rest) (counted-is (first + 1) count)

pub length-counted : (first count : ℕ) → length (counted first count) ≡ count
length-counted first count = ap length (counted-is first count) ∙ length-range_with_len first count

-- what is made of the k-th of them
pub made-at : {X : Type 0} (f : ℕ → X) (first count k : ℕ) (other : X) → k < count → unwrap_or (slice_get (map f (counted first count)) k) other ≡ f (first + k)
made-at f first count k other h =
    let within : k < length (counted first count) = omega (arith, length-counted first count, h) in
    unwrap_or-slice_get (map f (counted first count)) k other
    ∙ (get_or-map f (counted first count) k 0 other within
    ∙ ap f (ap (λ ns. get_or ns k 0) (counted-is first count) ∙ get_or-range_with_len first count k 0 h))
