-- Where values stand in order is how many come before them.
use Rattle.std.proofs.Common.{◌≡◌, ◌∙◌, sym, refl, ap, ℕ, zero, suc, ◌<◌, ◌+◌, ◌||◌, ◌&&◌, ◌==◌, nat_lt, Bool, true, false, cond, List, [], ◌∷◌, length, map, arith, get_or, subst}
use Rattle.std.specs.Prelude.{All, count_by, slice_index, sum_by, ⊤}
use Rattle.std.specs.List.{AllByRecursion, Contains, IsDistinct}
use Rattle.std.specs.List.Sorted.{IsSortedBy}
use Rattle.std.proofs.lemmas.Bool.Decides.{nat_tests}
use Rattle.std.proofs.lemmas.List.Elements.{All-from_get_or, All-get_or}
use Rattle.std.proofs.lemmas.List.FromFn.{get_or-map-range_with_len, length-map-range_with_len}
use Rattle.std.proofs.lemmas.List.Sorted.{All-permutation, Contains-permutation, length_permutation, sum_by-IsPermutation}
use Rattle.std.proofs.lemmas.List.Sums.{sum_by-cons}
use Rattle.std.proofs.lemmas.Map.Keys.{IsDistinct-from_apart, IsDistinct-head, IsDistinct-IsPermutation, IsDistinct-tail}
use Rattle.list_words.specs.Lists.{places_of, rank_rising}
use Rattle.list_words.specs.Order.{pair_lt}
use Rattle.plan_fitness.specs.inside.Ranked.{AreInOrder, placed}

-- whether two pairs have one place
abbrev pub same_place : ℕ × ℕ → ℕ × ℕ → Bool
same_place x y = x.1 == y.1

-- each pair comes before all behind it
abbrev pub Ascends : List (ℕ × ℕ) → Type 0
Ascends [] = ⊤
Ascends (y ∷ ys) = AllByRecursion (λ z. pair_lt y z ≡ true) ys × Ascends ys

more : (k : ℕ) → suc k + 1 ≡ suc (k + 1)
more k = omega arith

through_by : (a b c d e f : ℕ) → (nat_lt a c || ((a == c) && nat_lt b d)) ≡ true → (nat_lt c e || ((c == e) && nat_lt d f)) ≡ true →
    (nat_lt a e || ((a == e) && nat_lt b f)) ≡ true
through_by a b c d e f g h = grind (arith, nat_tests)

next_by : (a b c d : ℕ) → (nat_lt c a || ((c == a) && nat_lt d b)) ≡ false → (b == d) ≡ false → (nat_lt a c || ((a == c) && nat_lt b d)) ≡ true
next_by a b c d g h = grind (arith, nat_tests)

one_way_by : (a b c d : ℕ) → (nat_lt a c || ((a == c) && nat_lt b d)) ≡ true → (nat_lt c a || ((c == a) && nat_lt d b)) ≡ false
one_way_by a b c d h = grind (arith, nat_tests)

itself_by : (a b : ℕ) → (nat_lt a a || ((a == a) && nat_lt b b)) ≡ false
itself_by a b = grind (arith, nat_tests)

-- nothing added to a number
none-more : (n : ℕ) → 0 + n ≡ n
none-more n = omega arith

flips_by : (m n : ℕ) → (m == n) ≡ (n == m)
flips_by m n = grind (arith, nat_tests)

differ : (i j : ℕ) → i < j → (i == j) ≡ false
differ i j h = grind (arith, nat_tests)

-- what comes before the first comes before all behind it
all-through : (y z : ℕ × ℕ) → pair_lt y z ≡ true → (zs : List (ℕ × ℕ)) → AllByRecursion (λ w. pair_lt z w ≡ true) zs → AllByRecursion (λ w. pair_lt y w ≡ true) zs
all-through y z h [] all = tt
all-through y z h (w ∷ ws) all = (through_by y.0 y.1 z.0 z.1 w.0 w.1 h all.0, all-through y z h ws all.1)

all-at : (P : ℕ × ℕ → Type 0) (xs : List (ℕ × ℕ)) → AllByRecursion P xs → (k : ℕ) (d : ℕ × ℕ) → k < length xs → P (get_or xs k d)
all-at P [] all k d l = absurd (omega arith)
all-at P (x ∷ xs) all zero d l = all.0
all-at P (x ∷ xs) all (suc k) d l = all-at P xs all.1 k d (omega arith)

-- pairs of different places that are in order ascend
ascending : (ys : List (ℕ × ℕ)) → IsSortedBy pair_lt ys → IsDistinct same_place ys → Ascends ys
ascending [] h apart = tt
ascending (y ∷ []) h apart = (tt, tt)
ascending (y ∷ z ∷ zs) h apart =
    let rest = ascending (z ∷ zs) (λ k d l m. ap (λ n. pair_lt (get_or (y ∷ z ∷ zs) n d) (get_or (z ∷ zs) k d)) (sym (more k)) ∙ h (suc k) d (omega arith) (omega arith)) (IsDistinct-tail same_place y (z ∷ zs) apart) in
    let next : pair_lt y z ≡ true = next_by y.0 y.1 z.0 z.1 (h 0 y (omega arith) (omega arith)) (IsDistinct-head same_place y (z ∷ zs) apart).0 in
    ((next, all-through y z next zs rest.0), rest)

-- none of the pairs behind it comes before it
none-before : (y : ℕ × ℕ) (ys : List (ℕ × ℕ)) → AllByRecursion (λ z. pair_lt y z ≡ true) ys → count_by (λ q. pair_lt q y) ys ≡ 0
none-before y [] all = refl
none-before y (z ∷ zs) all =
    let behind : pair_lt z y ≡ false = one_way_by y.0 y.1 z.0 z.1 all.0 in
    let rest = none-before y zs all.1 in
    sum_by-cons (λ q. cond (pair_lt q y) 1 0) z zs ∙ ap (λ b. cond b 1 0 + sum_by (λ q. cond (pair_lt q y) 1 0) zs) behind ∙ (none-more (count_by (λ q. pair_lt q y) zs) ∙ rest)

-- as many come before a pair as its index says
before-at : (ys : List (ℕ × ℕ)) → Ascends ys → (k : ℕ) (d : ℕ × ℕ) → k < length ys → count_by (λ q. pair_lt q (get_or ys k d)) ys ≡ k
before-at [] asc k d l = absurd (omega arith)
before-at (y ∷ ys) asc zero d l =
    let rest = none-before y ys asc.0 in
    sum_by-cons (λ q. cond (pair_lt q y) 1 0) y ys ∙ ap (λ b. cond b 1 0 + sum_by (λ q. cond (pair_lt q y) 1 0) ys) (itself_by y.0 y.1) ∙ (none-more (count_by (λ q. pair_lt q y) ys) ∙ rest)
before-at (y ∷ ys) asc (suc k) d l =
    let x : ℕ × ℕ = get_or ys k d in
    let first : pair_lt y x ≡ true = all-at (λ z. pair_lt y z ≡ true) ys asc.0 k d (omega arith) in
    let rest : sum_by (λ q. cond (pair_lt q x) 1 0) ys ≡ k = before-at ys asc.1 k d (omega arith) in
    let one : 1 + k ≡ suc k = omega arith in
    sum_by-cons (λ q. cond (pair_lt q x) 1 0) y ys
    ∙ ap (λ b. cond b 1 0 + sum_by (λ q. cond (pair_lt q x) 1 0) ys) first ∙ ap (λ n. 1 + n) rest ∙ one

count-map : (test : ℕ × ℕ → Bool) (f : ℕ → ℕ × ℕ) (xs : List ℕ) → count_by test (map f xs) ≡ count_by (λ j. test (f j)) xs
count-map test f [] = refl
count-map test f (x ∷ xs) =
    sum_by-cons (λ q. cond (test q) 1 0) (f x) (map f xs)
    ∙ ap (λ n. cond (test (f x)) 1 0 + n) (count-map test f xs)
    ∙ sym (sum_by-cons (λ j. cond (test (f j)) 1 0) x xs)

-- a pair is a value with its place
pub record IsPlaced (values : List ℕ) (q : ℕ × ℕ) : Type 0 where
  pub there : q.1 < length values
  pub own : q ≡ (slice_index values q.1, q.1)

module _ (values : List ℕ) where
  entry : (i : ℕ) (d : ℕ × ℕ) → i < length values → get_or (placed values) i d ≡ (slice_index values i, i)
  entry i d l = get_or-map-range_with_len (λ i. (slice_index values i, i)) 0 (length values) i i d l (omega arith)

  length-placed : length (placed values) ≡ length values
  length-placed = length-map-range_with_len (λ i. (slice_index values i, i)) 0 (length values)

  placed-apart : IsDistinct same_place (placed values)
  placed-apart = IsDistinct-from_apart same_place (placed values)
      (λ i j d h l.
      let m : j < length values = omega (arith, length-placed) in
      ap (λ x. same_place x (get_or (placed values) j d)) (entry i d (omega arith)) ∙ ap (λ y. i == y.1) (entry j d m) ∙ differ i j h)

  own-entry : (i : ℕ) → i < length values → IsPlaced values (slice_index values i, i)
  own-entry i l = record { there = l; own = refl }

  all-placed : All (IsPlaced values) (placed values)
  all-placed = All-from_get_or (IsPlaced values) (placed values) (0, 0)
      (λ i l. let m : i < length values = omega (arith, length-placed) in subst (IsPlaced values) (sym (entry i (0, 0) m)) (own-entry i m))

  module _ (pairs : List (ℕ × ℕ)) (order : AreInOrder values pairs) where
    -- there is a pair for each value
    pub length-ordered : length pairs ≡ length values
    length-ordered = length_permutation (placed values) pairs order.moves ∙ length-placed

    -- each is a value with its place
    pub placed-at : (k : ℕ) (d : ℕ × ℕ) → k < length pairs → IsPlaced values (get_or pairs k d)
    placed-at k d l = All-get_or (IsPlaced values) pairs k d l (All-permutation (IsPlaced values) (placed values) pairs order.moves all-placed)

    -- its index is the rank of its place
    pub rank-at : (k : ℕ) (d : ℕ × ℕ) → k < length pairs → rank_rising values (get_or pairs k d).1 ≡ k
    rank-at k d l =
        let q : ℕ × ℕ = get_or pairs k d in
        let own = (placed-at k d l).own in
        let test : ℕ × ℕ → Bool = λ r. pair_lt r q in
        let asc = ascending pairs order.ascends (IsDistinct-IsPermutation same_place (λ x y. flips_by x.1 y.1) (placed values) pairs order.moves placed-apart) in
        ap (λ (r : ℕ × ℕ). count_by (λ j. pair_lt (slice_index values j, j) r) (places_of values)) (sym own)
        ∙ sym (count-map test (λ i. (slice_index values i, i)) (places_of values))
        ∙ sym (sum_by-IsPermutation (λ r. cond (test r) 1 0) (placed values) pairs order.moves)
        ∙ before-at pairs asc k d l

    -- each value stands there
    pub found : (i : ℕ) → i < length values → Contains pairs (slice_index values i, i)
    found i l =
        let m : i < length (placed values) = omega (arith, length-placed) in
        Contains-permutation (placed values) pairs (slice_index values i, i) order.moves (i, m, entry i (slice_index values i, i) l)
