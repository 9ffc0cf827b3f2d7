-- A random order is its items in another order, and one of the clients names each of them once.
use Rattle.std.proofs.Common.{◌≡◌, ◌∙◌, sym, refl, ap, ap₂, subst, ℕ, zero, suc, ◌+◌, ◌≤◌, ◌<◌, ◌&&◌, ◌||◌, ◌==◌, nat_lt, Bool, true, false, cond, List, [], ◌∷◌, length, map, sum_by, count_by, All, IsTrue, arith}
use Rattle.std.specs.List.{list_any, range_with_len, zip}
use Rattle.std.specs.Prelude.{nat_le}
use Rattle.std.specs.List.Sorted.{IsPermutation}
use Rattle.std.proofs.lemmas.Bool.Decides.{nat_tests}
use Rattle.std.proofs.lemmas.List.Elements.{All-nil, All-cons}
use Rattle.std.proofs.lemmas.List.Sorted.{IsPermutation-refl, IsPermutation-cons, IsPermutation-middle, IsPermutation-trans, IsPermutation-map, All-permutation, list_any-IsPermutation, sum_by-IsPermutation}
use Rattle.std.proofs.lemmas.List.Sums.{sum_by-cons}
use Rattle.std.proofs.lemmas.Slice.Zip.{seconds-zip}
use Rattle.problem_data.specs.declared.problem.Problem.{Problem}
use Rattle.problem_data.specs.Places.{client_places, depot_count, is_client_place}
use Rattle.list_words.specs.Order.{put_in_order, sorted_by, pair_lt}
use Rattle.vrp_num.specs.Orders.{random_order}
use Rattle.vrp_num.specs.Words.{State, words, next_state}
use Rattle.random_model.specs.Draws.{client_order}

module _ {X : Type 0} (before : X → X → Bool) where
  put_moves : (x : X) (l : List X) → IsPermutation (x ∷ l) (put_in_order before x l)
  put_moves x [] = IsPermutation-refl (x ∷ [])
  put_moves x (y ∷ l) = by (put_moves x l) (before y x)
    where
      by : IsPermutation (x ∷ l) (put_in_order before x l) → (b : Bool) → IsPermutation (x ∷ y ∷ l) (cond b (y ∷ put_in_order before x l) (x ∷ y ∷ l))
      by rest true = IsPermutation-trans (x ∷ y ∷ l) (y ∷ x ∷ l) (y ∷ put_in_order before x l) (IsPermutation-middle (x ∷ []) y l) (IsPermutation-cons y (x ∷ l) (put_in_order before x l) rest)
      by rest false = IsPermutation-refl (x ∷ y ∷ l)

  -- a list put in order has its elements
  pub sorted_moves : (xs : List X) → IsPermutation xs (sorted_by before xs)
  sorted_moves [] = IsPermutation-refl []
  sorted_moves (x ∷ xs) =
      IsPermutation-trans (x ∷ xs) (x ∷ sorted_by before xs) (put_in_order before x (sorted_by before xs))
      (IsPermutation-cons x xs (sorted_by before xs) (sorted_moves xs)) (put_moves x (sorted_by before xs))

pub length-words : (n : ℕ) (s : State) → length (words n s) ≡ n
unfolding words
length-words zero s = refl
length-words (suc n) s = ap suc (length-words n (next_state s))

pub random_order-moves : (items : List ℕ) (s : State) → IsPermutation items (random_order items s)
random_order-moves items s =
    let keys : List (ℕ × ℕ) = zip (words (length items) s) items in
    let second : ℕ × ℕ → ℕ = λ pair. pair.1 in
    let whole : map second keys ≡ items = seconds-zip (words (length items) s) items (sym (length-words (length items) s)) in
    subst (λ (l : List ℕ). IsPermutation l (random_order items s)) whole (IsPermutation-map second keys (sorted_by pair_lt keys) (sorted_moves pair_lt keys))

-- a test of each number of a range
pub All-range : (P : ℕ → Type 0) (a n : ℕ) → ((k : ℕ) → a ≤ k → k < a + n → P k) → All P (range_with_len a n)
All-range P a zero h = All-nil P
All-range P a (suc n) h = All-cons P a (range_with_len (a + 1) n) (h a (omega arith) (omega arith)) (All-range P (a + 1) n (λ k l u. h k (omega arith) (omega arith)))

is_client_from : (a k n : ℕ) → a ≤ k → k < a + n → (nat_le a k && nat_lt k (a + n)) ≡ true
is_client_from a k n l u = grind (arith, nat_tests)

pub client_places-clients : (p : Problem) → All (λ place. IsTrue (is_client_place p place)) (client_places p)
client_places-clients p = All-range (λ place. IsTrue (is_client_place p place)) (depot_count p) (length p.clients) (λ k l u. is_client_from (depot_count p) k (length p.clients) l u)

-- a random order of the clients names clients
pub client_order-clients : (p : Problem) (s : State) → All (λ place. IsTrue (is_client_place p place)) (client_order p s).value
client_order-clients p s =
    All-permutation (λ place. IsTrue (is_client_place p place)) (client_places p) (client_order p s).value (random_order-moves (client_places p) s) (client_places-clients p)

equal_no : (a c : ℕ) → c < a → (a == c) ≡ false
equal_no a c h = grind (arith, nat_tests)

equal_yes : (a : ℕ) → (a == a) ≡ true
equal_yes a = grind (arith, nat_tests)

-- how often a number is in a range
count_below : (a n c : ℕ) → c < a → count_by (λ d. d == c) (range_with_len a n) ≡ 0
count_below a zero c h = refl
count_below a (suc n) c h =
    sum_by-cons (λ d. cond (d == c) 1 0) a (range_with_len (a + 1) n)
    ∙ ap₂ (λ (b : Bool) (m : ℕ). cond b 1 0 + m) (equal_no a c h) (count_below (a + 1) n c (omega arith))

count_range : (a n c : ℕ) → count_by (λ d. d == c) (range_with_len a n) ≤ 1
count_range a zero c = omega arith
count_range a (suc n) c = by (a == c) refl (count_range (a + 1) n c) (λ h. count_below (a + 1) n c h)
  where
    by : (b : Bool) → (a == c) ≡ b → count_by (λ d. d == c) (range_with_len (a + 1) n) ≤ 1
        → (c < a + 1 → count_by (λ d. d == c) (range_with_len (a + 1) n) ≡ 0)
        → count_by (λ d. d == c) (range_with_len a (suc n)) ≤ 1
    by b e rest none =
        rw (sum_by-cons (λ d. cond (d == c) 1 0) a (range_with_len (a + 1) n), e)
        (within b (sum_by (λ d. cond (d == c) 1 0) (range_with_len (a + 1) n)) rest (λ t. none (let same : (a == c) ≡ true = e ∙ t in grind (arith, nat_tests))))
      where
        within : (b : Bool) (n : ℕ) → n ≤ 1 → (b ≡ true → n ≡ 0) → cond b 1 0 + n ≤ 1
        within true n few none = let zeros : n ≡ 0 = none refl in omega arith
        within false n few none = omega arith

any_range : (a n c : ℕ) → a ≤ c → c < a + n → list_any (λ d. d == c) (range_with_len a n) ≡ true
any_range a zero c l u = absurd (omega arith)
any_range a (suc n) c l u = by (a == c) refl (λ m. any_range (a + 1) n c m (omega arith))
  where
    by : (b : Bool) → (a == c) ≡ b → (a + 1 ≤ c → list_any (λ d. d == c) (range_with_len (a + 1) n) ≡ true) → list_any (λ d. d == c) (range_with_len a (suc n)) ≡ true
    by true e rest = ap (λ (b : Bool). b || list_any (λ d. d == c) (range_with_len (a + 1) n)) e
    by false e rest =
        let apart : a + 1 ≤ c = grind (arith, nat_tests) in
        ap₂ (λ (b d : Bool). b || d) e (rest apart)

-- a random order names each client once
pub order-once : (p : Problem) (s : State) (c : ℕ) → count_by (λ d. d == c) (client_order p s).value ≤ 1
order-once p s c =
    let same = sum_by-IsPermutation (λ d. cond (d == c) 1 0) (client_places p) (client_order p s).value (random_order-moves (client_places p) s) in
    let few = count_range (depot_count p) (length p.clients) c in
    omega arith

pub order-whole : (p : Problem) (s : State) (c : ℕ) → depot_count p ≤ c → c < depot_count p + length p.clients → list_any (λ d. d == c) (client_order p s).value ≡ true
order-whole p s c l u =
    sym (list_any-IsPermutation (λ d. d == c) (client_places p) (client_order p s).value (random_order-moves (client_places p) s))
    ∙ any_range (depot_count p) (length p.clients) c l u
