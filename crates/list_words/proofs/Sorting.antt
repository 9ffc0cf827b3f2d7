-- What a sort gives: under a total order, a sorted permutation of a list is the list put in order.
use Rattle.std.proofs.Common.{◌≡◌, ◌∙◌, sym, refl, ap, ap₂, ℕ, zero, suc, ◌<◌, ◌+◌, ◌||◌, ◌&&◌, ◌==◌, nat_lt, Bool, true, false, cond, List, [], ◌∷◌, ◌++◌, length, take, arith, ⊎_elim}
use Rattle.std.specs.Prelude.{not}
use Rattle.std.specs.List.{list_all}
use Rattle.std.specs.Cmp.{IsStrictWeakOrder}
use Rattle.std.specs.List.Sorted.{IsPermutation, IsSorted, IsSortedBy, IsSplitAround, IsSplitAroundBy}
use Rattle.std.specs.Ordering.{is_lt, nat_cmp, ordering_then}
use Rattle.std.specs.declared.cmp.Ordering.{Ordering}
use Rattle.std.specs.List.{swap}
use Rattle.std.proofs.Math.ListN.{get_or, set}
use Rattle.std.proofs.lemmas.Bool.{cases_eq}
use Rattle.std.proofs.lemmas.Bool.Decides.{nat_tests}
use Rattle.std.proofs.lemmas.List.{length-set, get_or-set_same, get_or-set_other}
use Rattle.std.proofs.lemmas.List.Sorted.{IsPermutation-keeps}
use Rattle.list_words.specs.Order.{put_in_order, sorted_by, pair_lt}

-- an order by a test that tells any two elements apart
pub record IsTotalTest {X : Type 0} (before : X → X → Bool) : Type 0 where
  pub order : IsStrictWeakOrder before
  pub apart : (x y : X) → before x y ≡ false → before y x ≡ false → x ≡ y

more : (k : ℕ) → suc k + 1 ≡ suc (k + 1)
more k = omega arith

contradiction : (b : Bool) → b ≡ true → b ≡ false → ⊥
contradiction b t f = cc

and-left : (a b : Bool) → (a && b) ≡ true → a ≡ true
and-left true b h = refl
and-left false b h = h

and-right : (a b : Bool) → (a && b) ≡ true → b ≡ true
and-right true b h = h
and-right false b h = cc

not-true : (b : Bool) → not b ≡ true → b ≡ false
not-true true h = cc
not-true false h = refl

not-false : (b : Bool) → b ≡ false → not b ≡ true
not-false b h = rw h refl

take-front : {X : Type 0} (xs ys : List X) → take (length xs) (xs ++ ys) ≡ xs
take-front [] ys = refl
take-front (x ∷ xs) ys = ap (λ (t : List _). x ∷ t) (take-front xs ys)

-- a test that holds of each element holds of all
all-from : {X : Type 0} (p : X → Bool) (xs : List X) → ((k : ℕ) (d : X) → k < length xs → p (get_or xs k d) ≡ true) → list_all p xs ≡ true
all-from p [] h = refl
all-from p (x ∷ xs) h = rw (h 0 x (omega arith), all-from p xs (λ k d l. h (suc k) d (omega arith))) refl

all-of : {X : Type 0} (p : X → Bool) (x : X) (xs : List X) → p x ≡ true → ((k : ℕ) (d : X) → k < length xs → p (get_or xs k d) ≡ true) → list_all p (x ∷ xs) ≡ true
all-of p x xs h g = rw (h, all-from p xs g) refl

module _ {X : Type 0} (before : X → X → Bool) (o : IsTotalTest before) where
  before_itself : (x : X) → before x x ≡ false
  before_itself x = by (before x x) refl
    where
      by : (b : Bool) → before x x ≡ b → before x x ≡ false
      by true t = o.order.one_way x x t
      by false f = f

  turned : (x y : X) (l : List X) → cond (before y x) (y ∷ x ∷ l) (x ∷ y ∷ l) ≡ cond (before x y) (x ∷ y ∷ l) (y ∷ x ∷ l)
  turned x y l = by (before y x) (before x y) refl refl
    where
      by : (b c : Bool) → before y x ≡ b → before x y ≡ c → cond b (y ∷ x ∷ l) (x ∷ y ∷ l) ≡ cond c (x ∷ y ∷ l) (y ∷ x ∷ l)
      by true true t u = absurd (contradiction (before x y) u (o.order.one_way y x t))
      by true false t f = refl
      by false true f t = refl
      by false false f g = let e : x ≡ y = o.apart x y g f in cc

  -- z comes before y, and not before x: so x comes before y
  between : (x y z : X) → before z y ≡ true → before z x ≡ false → before x y ≡ true
  between x y z t f = by (before x y) refl
    where
      by : (b : Bool) → before x y ≡ b → before x y ≡ true
      by true u = u
      by false g = absurd (contradiction (before z y) t (o.order.chain z x y f g))

  -- two elements put in order, in either order
  put_twice : (x y : X) (l : List X) → put_in_order before x (put_in_order before y l) ≡ put_in_order before y (put_in_order before x l)
  put_twice x y [] = turned x y []
  put_twice x y (z ∷ l) = by (put_twice x y l) (before z y) (before z x) refl refl
    where
      by : put_in_order before x (put_in_order before y l) ≡ put_in_order before y (put_in_order before x l) →
          (b c : Bool) → before z y ≡ b → before z x ≡ c →
          put_in_order before x (cond b (z ∷ put_in_order before y l) (y ∷ z ∷ l)) ≡ put_in_order before y (cond c (z ∷ put_in_order before x l) (x ∷ z ∷ l))
      by rest true true p q = rw (q, p) (ap (λ (t : List X). z ∷ t) rest)
      by rest true false p q = let e : before x y ≡ true = between x y z p q in rw (q, e, p) refl
      by rest false true p q = let e : before y x ≡ true = between y x z q p in rw (p, e, q) refl
      by rest false false p q = rw (p, q) (turned x y (z ∷ l))

  -- the list without the element that was put in
  taken_out : X → List X → List X
  taken_out b [] = []
  taken_out b (z ∷ l) = cond (before z b) (z ∷ taken_out b l) l

  taken_out-put : (b : X) (l : List X) → taken_out b (put_in_order before b l) ≡ l
  unfolding taken_out
  taken_out-put b [] = rw (before_itself b) refl
  taken_out-put b (z ∷ l) = by (taken_out-put b l) (before z b) refl
    where
      by : taken_out b (put_in_order before b l) ≡ l → (t : Bool) → before z b ≡ t → taken_out b (cond t (z ∷ put_in_order before b l) (b ∷ z ∷ l)) ≡ z ∷ l
      by rest true p = rw p (ap (λ (t : List X). z ∷ t) rest)
      by rest false p = rw (before_itself b) refl

  put_same : (b : X) (xs ys : List X) → put_in_order before b xs ≡ put_in_order before b ys → xs ≡ ys
  put_same b xs ys e = sym (taken_out-put b xs) ∙ ap (taken_out b) e ∙ taken_out-put b ys

  -- v in place of the i-th element, and the i-th element put in: the same as v put in
  sorted-set : (l : List X) (i : ℕ) (v d : X) → i < length l →
      put_in_order before v (sorted_by before l) ≡ put_in_order before (get_or l i d) (sorted_by before (set l i v))
  sorted-set [] i v d h = absurd (omega arith)
  sorted-set (x ∷ l) zero v d h = put_twice v x (sorted_by before l)
  sorted-set (x ∷ l) (suc i) v d h =
      put_twice v x (sorted_by before l)
      ∙ ap (put_in_order before x) (sorted-set l i v d (omega arith))
      ∙ put_twice x (get_or l i d) (sorted_by before (set l i v))

  sorted-swap : (l : List X) (i j : ℕ) → i < length l → j < length l → sorted_by before (swap l i j) ≡ sorted_by before l
  sorted-swap [] i j h k = absurd (omega arith)
  sorted-swap (d ∷ l) i j h k =
      let a : X = get_or (d ∷ l) i d in
      let b : X = get_or (d ∷ l) j d in
      let w : List X = set (d ∷ l) i b in
      let long : length w ≡ length (d ∷ l) = length-set (d ∷ l) i b in
      let there : get_or w j d ≡ b = ⊎_elim (λ (e : j ≡ i). ap (λ n. get_or w n d) e ∙ get_or-set_same (d ∷ l) i b d h) (λ n. get_or-set_other (d ∷ l) i j b d n) (cases_eq j i) in
      let first = sorted-set (d ∷ l) i b d h in
      let second = sorted-set w j a d (omega arith) in
      put_same b _ _ (sym (ap (λ (z : X). put_in_order before z (sorted_by before (set w j a))) there) ∙ sym second ∙ sym first)

  -- a list's permutations are put in the same order
  pub sorted-IsPermutation : (xs ys : List X) → IsPermutation xs ys → sorted_by before ys ≡ sorted_by before xs
  sorted-IsPermutation xs ys p =
      IsPermutation-keeps xs (λ l. sorted_by before l ≡ sorted_by before xs) refl (λ l i j h k e. sorted-swap l i j h k ∙ e) ys p

  -- no element but the first may come before the first
  put_front : (x : X) (ys : List X) → ((d : X) → 0 < length ys → before (get_or ys 0 d) x ≡ false) → put_in_order before x ys ≡ x ∷ ys
  put_front x [] h = refl
  put_front x (y ∷ ys) h = rw (h y (omega arith)) refl

  sorted-sorted : (xs : List X) → IsSortedBy before xs → sorted_by before xs ≡ xs
  sorted-sorted [] h = refl
  sorted-sorted (x ∷ xs) h =
      let rest : sorted_by before xs ≡ xs = sorted-sorted xs (λ k d l m. ap (λ n. before (get_or (x ∷ xs) n d) (get_or xs k d)) (sym (more k)) ∙ h (suc k) d (omega arith) (omega arith)) in
      rw rest (put_front x xs (λ d l. h 0 d (omega arith) (omega arith)))

  -- a list's sorted permutation is the list put in order
  pub sorted_by-from_sort : (xs ys : List X) → IsPermutation xs ys → IsSortedBy before ys → ys ≡ sorted_by before xs
  sorted_by-from_sort xs ys p s = sym (sorted-sorted ys s) ∙ sorted-IsPermutation xs ys p

  -- a test that holds of x and of all of a list holds of all when x is put in, and of all in order
  all-put : (p : X → Bool) (x : X) (ys : List X) → p x ≡ true → list_all p ys ≡ true → list_all p (put_in_order before x ys) ≡ true
  all-put p x [] h g = rw h refl
  all-put p x (y ∷ ys) h g = by (all-put p x ys h (and-right (p y) (list_all p ys) g)) (before y x)
    where
      by : list_all p (put_in_order before x ys) ≡ true → (b : Bool) → list_all p (cond b (y ∷ put_in_order before x ys) (x ∷ y ∷ ys)) ≡ true
      by rest true = rw (and-left (p y) (list_all p ys) g, rest) refl
      by rest false = rw (h, g) refl

  all-sorted : (p : X → Bool) (xs : List X) → list_all p xs ≡ true → list_all p (sorted_by before xs) ≡ true
  all-sorted p [] h = refl
  all-sorted p (x ∷ xs) h = all-put p x (sorted_by before xs) (and-left (p x) (list_all p xs) h) (all-sorted p xs (and-right (p x) (list_all p xs) h))

  -- x is put into the first of two lists where nothing of the second one comes before it
  put-append : (x : X) (ys zs : List X) → list_all (λ z. not (before z x)) zs ≡ true → put_in_order before x (ys ++ zs) ≡ put_in_order before x ys ++ zs
  put-append x [] [] h = refl
  put-append x [] (z ∷ zs) h = rw (not-true (before z x) (and-left (not (before z x)) (list_all (λ z. not (before z x)) zs) h)) refl
  put-append x (y ∷ ys) zs h = by (put-append x ys zs h) (before y x)
    where
      by : put_in_order before x (ys ++ zs) ≡ put_in_order before x ys ++ zs → (b : Bool) →
          cond b (y ∷ put_in_order before x (ys ++ zs)) (x ∷ y ∷ (ys ++ zs)) ≡ cond b (y ∷ put_in_order before x ys) (x ∷ y ∷ ys) ++ zs
      by rest true = ap (λ (t : List X). y ∷ t) rest
      by rest false = refl

  -- two lists in order, where nothing of the second one comes before an element of the first
  sorted-append : (xs ys : List X) → ((k : ℕ) (d : X) → k < length xs → list_all (λ y. not (before y (get_or xs k d))) ys ≡ true) →
      sorted_by before (xs ++ ys) ≡ sorted_by before xs ++ sorted_by before ys
  sorted-append [] ys h = refl
  sorted-append (x ∷ xs) ys h =
      ap (put_in_order before x) (sorted-append xs ys (λ k d l. h (suc k) d (omega arith)))
      ∙ put-append x (sorted_by before xs) (sorted_by before ys) (all-sorted (λ y. not (before y x)) ys (h 0 x (omega arith)))

  length-put : (x : X) (ys : List X) → length (put_in_order before x ys) ≡ suc (length ys)
  length-put x [] = refl
  length-put x (y ∷ ys) = by (length-put x ys) (before y x)
    where
      by : length (put_in_order before x ys) ≡ suc (length ys) → (b : Bool) → length (cond b (y ∷ put_in_order before x ys) (x ∷ y ∷ ys)) ≡ suc (suc (length ys))
      by rest true = ap suc rest
      by rest false = refl

  -- as many as before
  pub length-sorted : (xs : List X) → length (sorted_by before xs) ≡ length xs
  length-sorted [] = refl
  length-sorted (x ∷ xs) = length-put x (sorted_by before xs) ∙ ap suc (length-sorted xs)

  -- the front of a list that is split around an element, put in order, is the beginning of the list put in order
  pub sorted-front : (xs front : List X) (x : X) (back : List X) → IsPermutation xs (front ++ x ∷ back) → IsSplitAroundBy before front x back →
      sorted_by before front ≡ take (length front) (sorted_by before xs)
  sorted-front xs front x back p s =
      let behind : (k : ℕ) (d : X) → k < length front → list_all (λ y. not (before y (get_or front k d))) (x ∷ back) ≡ true =
      λ k d l. all-of (λ y. not (before y (get_or front k d))) x back (not-false (before x (get_or front k d)) (s.0 k d l))
      (λ j e m. not-false (before (get_or back j e) (get_or front k d)) (o.order.chain (get_or back j e) x (get_or front k d) (s.1 j e m) (s.0 k d l))) in
      let all : sorted_by before xs ≡ sorted_by before front ++ sorted_by before (x ∷ back) = sym (sorted-IsPermutation xs (front ++ x ∷ back) p) ∙ sorted-append front (x ∷ back) behind in
      sym (ap₂ (λ (n : ℕ) (l : List X). take n l) (sym (length-sorted front)) all ∙ take-front (sorted_by before front) (sorted_by before (x ∷ back)))

one_way_by : (a b c d : ℕ) → (nat_lt a c || ((a == c) && nat_lt b d)) ≡ true → (nat_lt c a || ((c == a) && nat_lt d b)) ≡ false
one_way_by a b c d h = grind (arith, nat_tests)

chain_by : (a b c d e f : ℕ) → (nat_lt a c || ((a == c) && nat_lt b d)) ≡ false → (nat_lt c e || ((c == e) && nat_lt d f)) ≡ false →
    (nat_lt a e || ((a == e) && nat_lt b f)) ≡ false
chain_by a b c d e f g h = grind (arith, nat_tests)

firsts_by : (a b c d : ℕ) → (nat_lt a c || ((a == c) && nat_lt b d)) ≡ false → (nat_lt c a || ((c == a) && nat_lt d b)) ≡ false → a ≡ c
firsts_by a b c d g h = grind (arith, nat_tests)

seconds_by : (a b c d : ℕ) → (nat_lt a c || ((a == c) && nat_lt b d)) ≡ false → (nat_lt c a || ((c == a) && nat_lt d b)) ≡ false → b ≡ d
seconds_by a b c d g h = grind (arith, nat_tests)

pub pair_lt-total : IsTotalTest pair_lt
pair_lt-total = record {
  order = record {
    one_way = λ x y h. one_way_by x.0 x.1 y.0 y.1 h;
    chain = λ x y z g h. chain_by x.0 x.1 y.0 y.1 z.0 z.1 g h;
  };
  apart = λ x y g h. λ i. (firsts_by x.0 x.1 y.0 y.1 g h i, seconds_by x.0 x.1 y.0 y.1 g h i);
}

-- the order of pairs that std's `cmp` has
abbrev pub pair_cmp : ℕ × ℕ → ℕ × ℕ → Ordering
pair_cmp x y = ordering_then (nat_cmp x.0 y.0) (nat_cmp x.1 y.1)

compares : (a b c d : ℕ) → is_lt (ordering_then (nat_cmp a c) (nat_cmp b d)) ≡ (nat_lt a c || ((a == c) && nat_lt b d))
compares a b c d = grind (arith, nat_tests)

pair_compares : (x y : ℕ × ℕ) → is_lt (pair_cmp x y) ≡ pair_lt x y
pair_compares x y = compares x.0 x.1 y.0 y.1

-- what `sort` gives of pairs
pub pairs-from_sort : (xs ys : List (ℕ × ℕ)) → IsPermutation xs ys → IsSorted pair_cmp ys → ys ≡ sorted_by pair_lt xs
pairs-from_sort xs ys p s = sorted_by-from_sort pair_lt pair_lt-total xs ys p (λ k d l m. sym (pair_compares (get_or ys (k + 1) d) (get_or ys k d)) ∙ s k d l m)

-- what `select_nth_unstable` of pairs puts first, in order
pub pairs-front : (count : ℕ) (xs front : List (ℕ × ℕ)) (x : ℕ × ℕ) (back : List (ℕ × ℕ)) → IsPermutation xs (front ++ x ∷ back) → length front ≡ count →
    IsSplitAround pair_cmp front x back → sorted_by pair_lt front ≡ take count (sorted_by pair_lt xs)
pairs-front count xs front x back p e s =
    sorted-front pair_lt pair_lt-total xs front x back p
    ((λ k d l. sym (pair_compares x (get_or front k d)) ∙ s.0 k d l), (λ k d l. sym (pair_compares (get_or back k d) x) ∙ s.1 k d l))
    ∙ ap (λ (n : ℕ). take n (sorted_by pair_lt xs)) e
