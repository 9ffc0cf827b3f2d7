-- The order of the used vehicles is sorted by direction and then by number, and it is the only such order.
use Rattle.std.proofs.Common.{◌≡◌, ◌∙◌, sym, refl, ap, subst, ℕ, zero, suc, ◌+◌, ◌<◌, ◌≤◌, ◌&&◌, ◌||◌, not, nat_lt, Bool, true, false, cond, List, [], ◌∷◌, length, get_or, filter, All, arith}
use Rattle.std.specs.Cmp.{IsStrictWeakOrder}
use Rattle.std.specs.List.{range_with_len}
use Rattle.std.specs.List.Sorted.{IsSortedBy}
use Rattle.std.proofs.lemmas.Bool.{both_ways, le-ltb, ltb-false}
use Rattle.std.proofs.lemmas.Bool.Decides.{nat_tests}
use Rattle.std.proofs.lemmas.List.Elements.{All-filter, All-head, All-tail}
use Rattle.std.proofs.lemmas.List.Sorted.{All-permutation}
use Rattle.list_words.specs.Order.{put_in_order, sorted_by}
use Rattle.list_words.proofs.Sorting.{IsTotalTest, sorted_by-from_sort}
use Rattle.problem_data.specs.declared.problem.Problem.{Problem}
use Rattle.routing_model.specs.Routes.{Routes, is_used, list_at, used_numbers}
use Rattle.random_model.proofs.RandomOrders.{All-range, sorted_moves}
use Rattle.genetic_model.specs.Laws.{IsInOrder, comes_before}
use Rattle.genetic_model.specs.RouteOrder.{route_order, route_vector, turns_before}
use Rattle.genetic_model.proofs.Turning.{turns_before-order}

more : (k : ℕ) → suc k + 1 ≡ suc (k + 1)
more k = omega arith

-- a list put in order is sorted, where the order goes one way only
module _ {X : Type 0} (before : X → X → Bool) (one_way : (x y : X) → before x y ≡ true → before y x ≡ false) where
  abbrev Leads : X → List X → Type 0
  Leads x ys = (d : X) → 0 < length ys → before (get_or ys 0 d) x ≡ false

  sorted-cons : (x : X) (ys : List X) → Leads x ys → IsSortedBy before ys → IsSortedBy before (x ∷ ys)
  sorted-cons x ys first rest zero d l m = first d (omega arith)
  sorted-cons x ys first rest (suc k) d l m = ap (λ n. before (get_or (x ∷ ys) n d) (get_or ys k d)) (more k) ∙ rest k d (omega arith) (omega arith)

  sorted-tail : (x : X) (ys : List X) → IsSortedBy before (x ∷ ys) → IsSortedBy before ys
  sorted-tail x ys h k d l m = ap (λ n. before (get_or (x ∷ ys) n d) (get_or ys k d)) (sym (more k)) ∙ h (suc k) d (omega arith) (omega arith)

  sorted-head : (x : X) (ys : List X) → IsSortedBy before (x ∷ ys) → Leads x ys
  sorted-head x ys h d l = h 0 d (omega arith) (omega arith)

  leads-put : (x y : X) (ys : List X) → before x y ≡ false → Leads y ys → Leads y (put_in_order before x ys)
  leads-put x y [] h first = λ d l. h
  leads-put x y (z ∷ ys) h first = by (before z x)
    where
      by : (b : Bool) → Leads y (cond b (z ∷ put_in_order before x ys) (x ∷ z ∷ ys))
      by true d l = first d (omega arith)
      by false d l = h

  sorted-put : (x : X) (ys : List X) → IsSortedBy before ys → IsSortedBy before (put_in_order before x ys)
  sorted-put x [] h = sorted-cons x [] (λ d l. absurd (omega arith)) h
  sorted-put x (y ∷ ys) h = by (before y x) refl (sorted-put x ys (sorted-tail y ys h))
    where
      by : (b : Bool) → before y x ≡ b → IsSortedBy before (put_in_order before x ys) → IsSortedBy before (cond b (y ∷ put_in_order before x ys) (x ∷ y ∷ ys))
      by true e rest = sorted-cons y (put_in_order before x ys) (leads-put x y ys (one_way y x e) (sorted-head y ys h)) rest
      by false e rest = sorted-cons x (y ∷ ys) (λ d l. e) h

  sorted_by-sorted : (xs : List X) → IsSortedBy before (sorted_by before xs)
  sorted_by-sorted [] = λ k d l m. absurd (omega arith)
  sorted_by-sorted (x ∷ xs) = sorted-put x (sorted_by before xs) (sorted_by-sorted xs)

-- things by an order, and on a tie by their numbers
module _ {X : Type 0} (before : X → X → Bool) (o : IsStrictWeakOrder before) (number : X → ℕ) where
  abbrev pub then_by : X → X → Bool
  then_by u v = before u v || (not (before v u) && nat_lt (number u) (number v))

  test_later : (a b less : Bool) → (a || (not b && less)) ≡ false → a ≡ false
  test_later true b less h = h
  test_later false b less h = refl

  number_later : (m n : ℕ) (a b : Bool) → (a || (not b && nat_lt m n)) ≡ false → b ≡ false → n ≤ m
  number_later m n true b h e = absurd (both_ways true h refl)
  number_later m n false true h e = absurd (both_ways true e refl)
  number_later m n false false h e = ltb-false m n h

  not_then : (m n : ℕ) (a b : Bool) → a ≡ false → (b ≡ false → n ≤ m) → (a || (not b && nat_lt m n)) ≡ false
  not_then m n true b e h = absurd (both_ways true e refl)
  not_then m n false true e h = refl
  not_then m n false false e h = le-ltb m n (h refl)

  one_way_by : (m n : ℕ) (a b : Bool) → (a ≡ true → b ≡ false) → (a || (not b && nat_lt m n)) ≡ true → (b || (not a && nat_lt n m)) ≡ false
  one_way_by m n true true k h = k refl
  one_way_by m n true false k h = refl
  one_way_by m n false true k h = absurd (both_ways false refl h)
  one_way_by m n false false k h = grind (arith, nat_tests)

  pub then_by-order : IsStrictWeakOrder then_by
  then_by-order = record {
    one_way = λ u v h. one_way_by (number u) (number v) (before u v) (before v u) (o.one_way u v) h;
    chain = λ u v w g h.
        let first : before u v ≡ false = test_later (before u v) (before v u) (nat_lt (number u) (number v)) g in
        let second : before v w ≡ false = test_later (before v w) (before w v) (nat_lt (number v) (number w)) h in
        not_then (number u) (number w) (before u w) (before w u) (o.chain u v w first second)
        (λ e.
        let l = number_later (number u) (number v) (before u v) (before v u) g (o.chain v w u second e) in
        let m = number_later (number v) (number w) (before v w) (before w v) h (o.chain w u v e first) in omega arith);
  }

  -- of two of which none comes before the other the numbers are the same
  same-number : (u v : X) → then_by u v ≡ false → then_by v u ≡ false → number u ≡ number v
  same-number u v g h =
      let first : before u v ≡ false = test_later (before u v) (before v u) (nat_lt (number u) (number v)) g in
      let second : before v u ≡ false = test_later (before v u) (before u v) (nat_lt (number v) (number u)) h in
      let l = number_later (number u) (number v) (before u v) (before v u) g second in
      let m = number_later (number v) (number u) (before v u) (before u v) h first in omega arith

-- numbers by an order of their keys, and on a tie by themselves
module _ (before : ℕ → ℕ → Bool) (o : IsStrictWeakOrder before) where
  abbrev then_number : ℕ → ℕ → Bool
  then_number = then_by before o (λ n. n)

  then_number-total : IsTotalTest then_number
  then_number-total = record { order = then_by-order before o (λ n. n); apart = same-number before o (λ n. n) }

  -- putting in a number before greater ones is the same by both tests
  same_test : (x y : ℕ) → x < y → then_number y x ≡ before y x
  same_test x y l = by (before y x) (before x y)
    where
      by : (a b : Bool) → (a || (not b && nat_lt y x)) ≡ a
      by true b = refl
      by false true = refl
      by false false = le-ltb y x (omega arith)

  put-same : (x : ℕ) (ys : List ℕ) → All (λ y. x < y) ys → put_in_order then_number x ys ≡ put_in_order before x ys
  put-same x [] h = refl
  put-same x (y ∷ ys) h =
      ap (λ (b : Bool). cond b (y ∷ put_in_order then_number x ys) (x ∷ y ∷ ys)) (same_test x y (All-head (λ z. x < z) y ys h))
      ∙ ap (λ (l : List ℕ). cond (before y x) (y ∷ l) (x ∷ y ∷ ys)) (put-same x ys (All-tail (λ z. x < z) y ys h))

  sorted-same : (test : ℕ → Bool) (a n : ℕ) → sorted_by then_number (filter test (range_with_len a n)) ≡ sorted_by before (filter test (range_with_len a n))
  sorted-same test a zero = refl
  sorted-same test a (suc n) = by (test a) (sorted-same test (a + 1) n)
    where
      above : All (λ y. a < y) (sorted_by before (filter test (range_with_len (a + 1) n)))
      above =
          All-permutation (λ y. a < y) (filter test (range_with_len (a + 1) n)) (sorted_by before (filter test (range_with_len (a + 1) n)))
          (sorted_moves before (filter test (range_with_len (a + 1) n)))
          (All-filter test (λ y. a < y) (range_with_len (a + 1) n) (All-range (λ y. a < y) (a + 1) n (λ k l u. omega arith)))

      by : (b : Bool) → sorted_by then_number (filter test (range_with_len (a + 1) n)) ≡ sorted_by before (filter test (range_with_len (a + 1) n)) →
          sorted_by then_number (cond b (a ∷ filter test (range_with_len (a + 1) n)) (filter test (range_with_len (a + 1) n)))
          ≡ sorted_by before (cond b (a ∷ filter test (range_with_len (a + 1) n)) (filter test (range_with_len (a + 1) n)))
      by true e = ap (put_in_order then_number a) e ∙ put-same a (sorted_by before (filter test (range_with_len (a + 1) n))) above
      by false e = e

module _ (p : Problem) (routes : Routes) where
  abbrev turns : ℕ → ℕ → Bool
  turns u v = turns_before (route_vector p (list_at routes u)) (route_vector p (list_at routes v))

  turns-order : IsStrictWeakOrder turns
  turns-order = record {
    one_way = λ u v. turns_before-order.one_way (route_vector p (list_at routes u)) (route_vector p (list_at routes v));
    chain = λ u v w. turns_before-order.chain (route_vector p (list_at routes u)) (route_vector p (list_at routes v)) (route_vector p (list_at routes w));
  }

  -- vehicles by direction, and on a tie by number
  pub comes_before-total : IsTotalTest (comes_before p routes)
  comes_before-total = then_number-total turns turns-order

  by_number : sorted_by (comes_before p routes) (used_numbers routes) ≡ route_order p routes
  by_number = sorted-same turns turns-order (λ v. is_used (list_at routes v)) 0 (length routes)

  pub route_order-in_order : IsInOrder p routes (route_order p routes)
  route_order-in_order = record {
    moves = sorted_moves turns (used_numbers routes);
    ascends = subst (IsSortedBy (comes_before p routes)) by_number (sorted_by-sorted (comes_before p routes) comes_before-total.order.one_way (used_numbers routes));
  }

  pub in_order-route_order : (order : List ℕ) → IsInOrder p routes order → order ≡ route_order p routes
  in_order-route_order order h = sorted_by-from_sort (comes_before p routes) comes_before-total (used_numbers routes) order h.moves h.ascends ∙ by_number
