-- The tests of a row's numbers, one behind the other.
use Rattle.std.proofs.Common.{◌≡◌, ◌+◌, ℕ, Bool, true, false, not, ◌||◌, ◌&&◌, List, [], ◌∷◌, ◌++◌, length, refl, sym, ◌∙◌, ap, subst, ℤ, Option, Some, None}
use Rattle.std.specs.Prelude.{flat_map}
use Rattle.std.proofs.lemmas.Bool.{eq-eqb}
use Rattle.vrplib_model.specs.declared.rule.Rule.{Rule}
use Rattle.vrplib_model.specs.declared.rule.Rule.TheVariants.{BadNode, BadVehicle, BadGroup, EmptyWindow}
use Rattle.vrplib_model.specs.Checks.{broken_if, first_of, has_repeated}
use Rattle.vrplib_rows.specs.inside.RowTables.{AreOwned}
use Rattle.vrplib_model.specs.Numbers.{number_at}
use Rattle.vrplib_model.specs.RowFaults.{is_bad_group, is_bad_vehicle, nodes_named}
use Rattle.vrplib_model.specs.declared.section.Section.{Section}
use Rattle.vrplib_model.specs.declared.section.Section.TheVariants.{Group as group_section}

pub last_test : (a b c r : Bool) → a ≡ false → b ≡ true → r ≡ c → r ≡ (a || (b && c))
last_test a b c r ea eb er = er ∙ sym (ap (λ x. x || (b && c)) ea ∙ ap (λ x. x && c) eb)

-- the test of a group whose number is right
pub group_test : (row : List ℤ) (rows : List (List ℤ)) (named : List ℕ) (number first : ℕ) (r : Bool) → number ≡ length rows + 1 → first ≡ number_at 0 row → first ≡ number → named ≡ nodes_named group_section row
    → r ≡ has_repeated (named ++ flat_map (nodes_named group_section) rows) → r ≡ is_bad_group group_section row rows
group_test row rows named number first r e f g n h =
    h ∙ ap (λ ns. has_repeated (ns ++ flat_map (nodes_named group_section) rows)) n
    ∙ sym (ap (λ b. not b || has_repeated (nodes_named group_section row ++ flat_map (nodes_named group_section) rows)) (eq-eqb (number_at 0 row) (length rows + 1) (sym f ∙ g ∙ e)))

first_of_one : (x : Option Rule) → first_of (x ∷ []) ≡ x
first_of_one None = refl
first_of_one (Some rule) = refl

pub owned_along : (s t : Section) (nodes : ℕ) (rows : List (List ℤ)) (owners : List ℕ) → s ≡ t → AreOwned s nodes rows owners → AreOwned t nodes rows owners
owned_along s t nodes rows owners e o = let P : Section → Type 0 = λ u. AreOwned u nodes rows owners in subst P e o

-- the rule that a row breaks as a group
pub kind_at_group : (s : Section) (row : List ℤ) (rows : List (List ℤ)) (b : Bool) (fault : Option Rule) → s ≡ group_section → b ≡ is_bad_group group_section row rows → fault ≡ broken_if b BadGroup
    → fault ≡ first_of (broken_if (is_bad_vehicle s row rows) BadVehicle ∷ broken_if (is_bad_group s row rows) BadGroup ∷ [])
kind_at_group s row rows b fault e is f =
    let P : Section → Type 0 = λ u. fault ≡ first_of (broken_if (is_bad_vehicle u row rows) BadVehicle ∷ broken_if (is_bad_group u row rows) BadGroup ∷ []) in
    subst P (sym e) (f ∙ ap (λ x. broken_if x BadGroup) is ∙ sym (first_of_one (broken_if (is_bad_group group_section row rows) BadGroup)))

-- two tests that are passed
pub behind_two : (a b : Bool) (more : List (Option Rule)) (fault : Option Rule) → a ≡ false → b ≡ false → fault ≡ first_of more → fault ≡ first_of (broken_if a BadNode ∷ broken_if b EmptyWindow ∷ more)
behind_two a b more fault ea eb f = f ∙ sym (ap (λ x. first_of (broken_if x BadNode ∷ broken_if b EmptyWindow ∷ more)) ea ∙ ap (λ x. first_of (broken_if x EmptyWindow ∷ more)) eb)
