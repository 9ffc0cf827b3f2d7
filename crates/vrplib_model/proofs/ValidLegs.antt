-- The profiles of an accepted text are valid.
use Rattle.std.proofs.Common.{◌≡◌, ℕ, ◌+◌, ◌*◌, ◌/◌, ◌<◌, ◌≤◌, true, false, List, [], ◌∷◌, length, get_or, take, map, refl, sym, ◌∙◌, ap, arith, ℤ, length-take-le}
use Rattle.std.specs.Prelude.{◌==◌, nat_lt, flat_map}
use Rattle.std.specs.List.{AllByRecursion, All, list_any}
use Rattle.std.proofs.lemmas.Bool.{ltb-false, or_parts, eq-eqb, cond_both}
use Rattle.std.proofs.lemmas.List.{length-map, get_or-map}
use Rattle.std.proofs.lemmas.List.Concat.{get_or-flat_map}
use Rattle.std.proofs.lemmas.List.Elements.{All-from_recursion}
use Rattle.problem_data.specs.declared.problem.Profile.{Profile}
use Rattle.problem_data.specs.Limits.{largest_leg}
use Rattle.problem_data.specs.Valid.{IsValidTable, IsValidProfile}
use Rattle.vrp_num.specs.declared.rounding.Rounding.{Rounding}
use Rattle.vrplib_model.specs.LineKinds.{Line}
use Rattle.vrplib_model.specs.Sections.{profile_section}
use Rattle.vrplib_model.specs.Numbers.{number_at}
use Rattle.vrplib_model.specs.Values.{node_count}
use Rattle.vrplib_model.specs.Rows.{rows_of, has_section}
use Rattle.vrplib_model.specs.Entries.{nodes}
use Rattle.vrplib_model.specs.Legs.{base_leg, table_of, profile_of_row, only_profile, profiles}
use Rattle.vrplib_model.specs.WholeText.{has_long_leg}
use Rattle.vrplib_model.proofs.LegTables.{rows_length}
use Rattle.vrplib_model.proofs.SoundLines.{AreRead}
use Rattle.vrplib_model.proofs.WholeFacts.{PassesWhole, none-pass, each-then, each-made, each-of, length-counted}

on_diagonal : {A : Type 0} (l : A → A → ℕ) (list : List A) (k : ℕ) (e : A) → k < length list
    → get_or (flat_map (λ a. map (l a) list) list) (k * length list + k) 0 ≡ l (get_or list k e) (get_or list k e)
on_diagonal {A} l list k e h =
    let row : A → List ℕ = λ a. map (l a) list in
    let before : length (flat_map row (take k list)) ≡ k * length list = rows_length l (take k list) list ∙ ap (λ n. n * length list) (length-take-le k list (omega (arith, h))) in
    let within : k < length (row (get_or list k e)) = omega (arith, h, length-map list (l (get_or list k e))) in
    ap (λ n. get_or (flat_map row list) (n + k) 0) (sym before)
    ∙ (get_or-flat_map row list k k e 0 h within ∙ get_or-map (l (get_or list k e)) list k e 0 h)

small-legs : (legs : List ℕ) → list_any (λ leg. nat_lt largest_leg leg) legs ≡ false → All (λ leg. leg ≤ largest_leg) legs
small-legs legs e =
    let small = each-of (λ leg. nat_lt largest_leg leg ≡ false → leg ≤ largest_leg) legs (λ leg. ltb-false largest_leg leg) in
    All-from_recursion (λ leg. leg ≤ largest_leg) legs
    (each-then (λ leg. nat_lt largest_leg leg ≡ false) (λ leg. leg ≤ largest_leg) legs small (none-pass (λ leg. nat_lt largest_leg leg) legs e))

table-valid : (n : ℕ) (list : List ℕ) (leg : ℕ → ℕ → ℕ) → length list ≡ n → ((i : ℕ) → leg i i ≡ 0)
    → list_any (λ entry. nat_lt largest_leg entry) (table_of list leg).entries ≡ false → IsValidTable n (table_of list leg)
table-valid n list leg same rest short = record {
  size = same;
  entries = rows_length leg list list ∙ ap (λ k. k * k) same;
  bounded = small-legs (table_of list leg).entries short;
  at_rest = λ k h. on_diagonal leg list k 0 (omega (arith, same, h)) ∙ rest (get_or list k 0);
}

leg-at_rest : (mode : Rounding) (all : List Line) (i : ℕ) → base_leg mode all i i ≡ 0
unfolding base_leg
leg-at_rest mode all i = let same : (i == i) ≡ true = eq-eqb i i refl in rw same

scaled-at_rest : (mode : Rounding) (all : List Line) (factor i : ℕ) → base_leg mode all i i * factor / 1000 ≡ 0
scaled-at_rest mode all factor i = rw leg-at_rest (omega arith)

-- a profile with no long leg is valid
abbrev IsValidIfShort : ℕ → Profile → Type 0
IsValidIfShort n p = has_long_leg p ≡ false → IsValidProfile n p

made-valid : (mode : Rounding) (all : List Line) (row : List ℤ) → IsValidIfShort (node_count mode all) (profile_of_row mode all row)
made-valid mode all row short =
    let n = node_count mode all in
    let tests = or_parts _ _ short in
    record {
      distances = table-valid n (nodes mode all) (λ i j. base_leg mode all i j * number_at 1 row / 1000) (length-counted 1 n) (scaled-at_rest mode all (number_at 1 row)) tests.0;
      durations = table-valid n (nodes mode all) (λ i j. base_leg mode all i j * number_at 2 row / 1000) (length-counted 1 n) (scaled-at_rest mode all (number_at 2 row)) tests.1;
    }

only-valid : (mode : Rounding) (all : List Line) → IsValidIfShort (node_count mode all) (only_profile mode all)
only-valid mode all short =
    let n = node_count mode all in
    let tests = or_parts _ _ short in
    record {
      distances = table-valid n (nodes mode all) (base_leg mode all) (length-counted 1 n) (leg-at_rest mode all) tests.0;
      durations = table-valid n (nodes mode all) (base_leg mode all) (length-counted 1 n) (leg-at_rest mode all) tests.1;
    }

pub profiles-valid : (mode : Rounding) (all : List Line) → PassesWhole mode all → All (IsValidProfile (node_count mode all)) (profiles mode all)
profiles-valid mode all passes =
    let n = node_count mode all in
    let steps = cond_both (has_section profile_section all) (map (profile_of_row mode all) (rows_of mode profile_section all)) (only_profile mode all ∷ [])
    (AllByRecursion (IsValidIfShort n))
    (λ _. each-made (IsValidIfShort n) (profile_of_row mode all) (rows_of mode profile_section all) (made-valid mode all))
    (λ _. (only-valid mode all, tt)) in
    All-from_recursion (IsValidProfile n) (profiles mode all)
    (each-then (λ p. has_long_leg p ≡ false) (IsValidProfile n) (profiles mode all) steps passes.legs)

pub some-profile : (mode : Rounding) (all : List Line) → AreRead mode all → 1 ≤ length (profiles mode all)
some-profile mode all read =
    let rows = rows_of mode profile_section all in
    cond_both (has_section profile_section all) (map (profile_of_row mode all) rows) (only_profile mode all ∷ []) (λ ps. 1 ≤ length ps)
    (λ e. omega (arith, length-map rows (profile_of_row mode all), read.some_profile e)) (λ _. omega arith)

pub few-profiles : (mode : Rounding) (all : List Line) → AreRead mode all → length (profiles mode all) ≤ 4
few-profiles mode all read =
    let rows = rows_of mode profile_section all in
    cond_both (has_section profile_section all) (map (profile_of_row mode all) rows) (only_profile mode all ∷ []) (λ ps. length ps ≤ 4)
    (λ _. omega (arith, length-map rows (profile_of_row mode all), (read.rows profile_section).together)) (λ _. omega arith)
