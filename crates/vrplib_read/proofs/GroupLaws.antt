-- The places that nodes have, and the first group that has a node.
use Rattle.std.proofs.Common.{◌≡◌, ◌==◌, ℕ, ◌-◌, ◌≤◌, subst, List, [], ◌∷◌, length, get_or, drop, map, refl, sym, ◌∙◌, ap, ℤ, pos, negsuc, arith}
use Rattle.std.specs.Prelude.{◌≤ℤ◌, nat_abs}
use Rattle.std.specs.List.{All, position, list_any}
use Rattle.std.proofs.lemmas.Bool.Decides.{nat_tests}
use Rattle.std.proofs.lemmas.Int.{ints}
use Rattle.std.proofs.lemmas.List.Elements.{All-head, All-tail}
use Rattle.vrplib_model.specs.declared.section.Section.{Section}
use Rattle.vrplib_model.specs.declared.section.Section.TheVariants.{Group as group_section}
use Rattle.vrplib_model.specs.Rows.{nodes_of}
use Rattle.vrplib_model.specs.Entries.{place_of}
use Rattle.vrplib_model.specs.Checks.{contains}
use Rattle.vrplib_model.specs.RowFaults.{nodes_named}
use Rattle.vrplib_model.specs.inside.FaultlessRows.{IsBetween, IsRow}
use Rattle.vrplib_read.specs.inside.OfText.{group_places}
use Rattle.vrplib_read.proofs.RowLaws.{position_same}

pub wider : (low high wide : ℕ) (z : ℤ) → high ≤ wide → IsBetween low high z → IsBetween low wide z
wider low high wide z h b = record { least = b.least; most = omega (arith, ints, b.most) }

pub all_wider : (low high wide : ℕ) (zs : List ℤ) → high ≤ wide → All (IsBetween low high) zs → All (IsBetween low wide) zs
all_wider low high wide zs h each = λ k d within. wider low high wide (get_or zs k d) h (each k d within)

no_node : (high n : ℕ) → IsBetween 1 high (negsuc n) → ⊥
no_node high n b = let h : pos 1 ≤ℤ negsuc n = b.least in omega (arith, ints)

pub places_are : (high : ℕ) (zs : List ℤ) → All (IsBetween 1 high) zs → map (λ z. place_of (nat_abs z)) zs ≡ map place_of (nodes_of zs)
places_are high [] each = refl
places_are high (pos n ∷ zs) each = ap (λ r. (n - 1) ∷ r) (places_are high zs (All-tail (IsBetween 1 high) (pos n) zs each))
places_are high (negsuc n ∷ zs) each = absurd (no_node high n (All-head (IsBetween 1 high) (negsuc n) zs each))

same_place : (m node : ℕ) → 1 ≤ m → 1 ≤ node → ((m - 1) == (node - 1)) ≡ (m == node)
same_place m node hm hn = grind (arith, nat_tests)

least_of : (high n : ℕ) → IsBetween 1 high (pos n) → 1 ≤ n
least_of high n b = let h : pos 1 ≤ℤ pos n = b.least in omega (arith, ints)

same_member : (high node : ℕ) → 1 ≤ node → (zs : List ℤ) → All (IsBetween 1 high) zs →
    list_any (λ place. place == place_of node) (map place_of (nodes_of zs)) ≡ contains node (nodes_of zs)
same_member high node h [] each = refl
same_member high node h (pos n ∷ zs) each =
    rw (same_place n node (least_of high n (All-head (IsBetween 1 high) (pos n) zs each)) h, same_member high node h zs (All-tail (IsBetween 1 high) (pos n) zs each)) refl
same_member high node h (negsuc n ∷ zs) each = absurd (no_node high n (All-head (IsBetween 1 high) (negsuc n) zs each))

-- the first group that has a node's place is the first row that names the node
pub same_group : (n node : ℕ) (rows : List (List ℤ)) → 1 ≤ node → All (IsRow group_section n) rows →
    position (λ places. list_any (λ place. place == place_of node) places) (map group_places rows) ≡ position (contains node) (map (nodes_named group_section) rows)
same_group n node rows h each =
    position_same group_places (λ places. list_any (λ place. place == place_of node) places) (λ row. contains node (nodes_named group_section row)) rows
    (λ k d within. same_member n node h (drop 1 (get_or rows k d)) (each k d within).1)
    ∙ sym (position_same (nodes_named group_section) (contains node) (λ row. contains node (nodes_named group_section row)) rows (λ k d within. refl))

-- the same where the section is known to be that of groups
pub first_group : (s : Section) (n node : ℕ) (rows : List (List ℤ)) → s ≡ group_section → 1 ≤ node → All (IsRow s n) rows →
    position (contains node) (map (nodes_named s) rows) ≡ position (λ places. list_any (λ place. place == place_of node) places) (map group_places rows)
first_group s n node rows is h each =
    let P : Section → Type 0 = λ s. All (IsRow s n) rows →
    position (contains node) (map (nodes_named s) rows) ≡ position (λ places. list_any (λ place. place == place_of node) places) (map group_places rows) in
    subst P (sym is) (λ each. sym (same_group n node rows h each)) each

-- what each row of a group is
pub group_row : (s : Section) (n : ℕ) (row : List ℤ) → s ≡ group_section → n ≤ 2048 → IsRow s n row → (2 ≤ length row) × All (IsBetween 1 2048) (drop 1 row)
group_row s n row is h b =
    let P : Section → Type 0 = λ s. IsRow s n row in
    let known : P group_section = subst P is b in
    (known.0, all_wider 1 n 2048 (drop 1 row) h known.1)
