-- The nodes that a row names, and their places.
use Rattle.std.proofs.Common.{◌≡◌, ℕ, ◌≤◌, false, List, [], ◌∷◌, length, map, refl, ◌∙◌, ap₂, arith, ℤ, pos, negsuc}
use Rattle.std.specs.Prelude.{◌||◌, ◌==◌, nat_eq}
use Rattle.std.specs.List.{AllByRecursion, IsDistinct}
use Rattle.std.proofs.lemmas.Bool.{or_parts, or_from}
use Rattle.std.proofs.lemmas.Bool.Decides.{nat_tests}
use Rattle.std.proofs.lemmas.Int.{ints}
use Rattle.vrplib_model.specs.Rows.{nodes_of}
use Rattle.vrplib_model.specs.Checks.{contains, has_repeated}
use Rattle.vrplib_model.specs.Entries.{place_of}
use Rattle.vrplib_model.specs.inside.FaultlessRows.{IsBetween}

-- a node of a text of n nodes
abbrev pub IsNode : ℕ → ℕ → Type 0
IsNode n m = (1 ≤ m) × (m ≤ n)

pub nodes-are : (n : ℕ) (zs : List ℤ) → AllByRecursion (IsBetween 1 n) zs → AllByRecursion (IsNode n) (nodes_of zs)
nodes-are n [] all = tt
nodes-are n (negsuc m ∷ zs) all = absurd (omega (arith, ints, all.0.least))
nodes-are n (pos m ∷ zs) all = ((omega (arith, ints, all.0.least), omega (arith, ints, all.0.most)), nodes-are n zs all.1)

pub length-nodes : (n : ℕ) (zs : List ℤ) → AllByRecursion (IsBetween 1 n) zs → length (nodes_of zs) ≡ length zs
length-nodes n [] all = refl
length-nodes n (negsuc m ∷ zs) all = absurd (omega (arith, ints, all.0.least))
length-nodes n (pos m ∷ zs) all = let rest = length-nodes n zs all.1 in omega (arith, rest)

-- different nodes have different places
same-place : (n k m : ℕ) → IsNode n k → IsNode n m → (place_of m == place_of k) ≡ (m == k)
same-place n k m hk hm = grind (arith, nat_tests)

pub contains-places : (n k : ℕ) (ms : List ℕ) → IsNode n k → AllByRecursion (IsNode n) ms → contains (place_of k) (map place_of ms) ≡ contains k ms
contains-places n k [] h all = refl
contains-places n k (m ∷ ms) h all = ap₂ ◌||◌ (same-place n k m h all.0) (contains-places n k ms h all.1)

pub places-differ : (n : ℕ) (ms : List ℕ) → AllByRecursion (IsNode n) ms → has_repeated ms ≡ false → has_repeated (map place_of ms) ≡ false
places-differ n [] all e = refl
places-differ n (m ∷ ms) all e =
    let parts = or_parts (contains m ms) (has_repeated ms) e in
    or_from (contains (place_of m) (map place_of ms)) (has_repeated (map place_of ms)) (contains-places n m ms all.0 all.1 ∙ parts.0) (places-differ n ms all.1 parts.1)

-- numbers that don't come again are distinct
other-number : (m k : ℕ) → (k == m) ≡ false → nat_eq m k ≡ false
other-number m k e = grind (arith, nat_tests)

none-same : (m : ℕ) (ms : List ℕ) → contains m ms ≡ false → AllByRecursion (λ k. nat_eq m k ≡ false) ms
none-same m [] e = tt
none-same m (k ∷ ms) e = let parts = or_parts (k == m) (contains m ms) e in (other-number m k parts.0, none-same m ms parts.1)

pub distinct-is : (ms : List ℕ) → has_repeated ms ≡ false → IsDistinct nat_eq ms
unfolding IsDistinct
distinct-is [] e = tt
distinct-is (m ∷ ms) e = let parts = or_parts (contains m ms) (has_repeated ms) e in (none-same m ms parts.0, distinct-is ms parts.1)
