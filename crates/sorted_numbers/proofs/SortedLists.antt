-- Ascending numbers are their list put in order, also with a number more or less.
use Rattle.std.proofs.Common.{◌≡◌, ◌∙◌, sym, refl, ap, ℕ, ◌+◌, ◌<◌, ◌≤◌, ◌⊎◌, inl, inr, Bool, true, false, cond, List, [], ◌∷◌, ◌++◌, length, get_or, arith}
use Rattle.std.specs.Prelude.{nat_lt}
use Rattle.std.specs.List.{insert, remove}
use Rattle.std.specs.List.Sorted.{IsNonDecreasing, IsPermutation, IsSortedBy}
use Rattle.std.proofs.lemmas.Bool.Decides.{nat_tests}
use Rattle.std.proofs.lemmas.List.Edits.{get_or-remove_above, get_or-remove_below, length-remove}
use Rattle.std.proofs.lemmas.List.Sorted.{IsNonDecreasingBy-insert, IsPermutation-insert, IsPermutation-refl, IsPermutation-remove, IsPermutation-sym, IsPermutation-to_front}
use Rattle.std.proofs.lemmas.Bool.{cases_lt}
use Rattle.list_words.specs.Order.{put_in_order, sorted_by}
use Rattle.list_words.proofs.Sorting.{IsTotalTest, sorted_by-from_sort, sorted-IsPermutation}
use Rattle.sorted_numbers.specs.inside.Places.{IsPlaceFor}

lt-one_way : (a b : ℕ) → nat_lt a b ≡ true → nat_lt b a ≡ false
lt-one_way a b h = grind (arith, nat_tests)

lt-chain : (a b c : ℕ) → nat_lt a b ≡ false → nat_lt b c ≡ false → nat_lt a c ≡ false
lt-chain a b c h k = grind (arith, nat_tests)

lt-apart : (a b : ℕ) → nat_lt a b ≡ false → nat_lt b a ≡ false → a ≡ b
lt-apart a b h k = grind (arith, nat_tests)

lt-not : (a b : ℕ) → a ≤ b → nat_lt b a ≡ false
lt-not a b h = grind (arith, nat_tests)

pub numbers-total : IsTotalTest nat_lt
numbers-total = record {
  order = record { one_way = lt-one_way; chain = lt-chain };
  apart = lt-apart;
}

sorted-from : (xs : List ℕ) → IsNonDecreasing xs → IsSortedBy nat_lt xs
sorted-from xs up k d low high = lt-not (get_or xs k d) (get_or xs (k + 1) d) (up k (k + 1) d (omega arith) high)

-- ascending numbers are in order
pub sorted-itself : (xs : List ℕ) → IsNonDecreasing xs → xs ≡ sorted_by nat_lt xs
sorted-itself xs up = sorted_by-from_sort nat_lt numbers-total xs xs (IsPermutation-refl xs) (sorted-from xs up)

-- a permutation in order
pub sorted-same : (xs ys : List ℕ) → IsPermutation xs ys → sorted_by nat_lt ys ≡ sorted_by nat_lt xs
sorted-same xs ys moves = sorted-IsPermutation nat_lt numbers-total xs ys moves

-- with a number more at the end
pub sorted-more : (xs : List ℕ) (x : ℕ) → put_in_order nat_lt x (sorted_by nat_lt xs) ≡ sorted_by nat_lt (xs ++ x ∷ [])
sorted-more xs x = sorted-same (xs ++ x ∷ []) (x ∷ xs) (IsPermutation-to_front xs x)

-- the numbers still ascend with a number put in at its place
pub still : (xs : List ℕ) (at x : ℕ) → IsNonDecreasing xs → IsPlaceFor xs x at → IsNonDecreasing (insert xs at x)
still xs at x up is = IsNonDecreasingBy-insert (λ n. n) xs at x up is.inside (λ k d h. is.before k d h) (λ k d h l. is.behind k d h l)

-- a number is put in at its place
pub put-there : (xs : List ℕ) (at x : ℕ) → IsNonDecreasing xs → IsPlaceFor xs x at → insert xs at x ≡ put_in_order nat_lt x xs
put-there xs at x up is =
    sorted_by-from_sort nat_lt numbers-total (x ∷ xs) (insert xs at x) (IsPermutation-insert xs at x) (sorted-from (insert xs at x) (still xs at x up is))
    ∙ ap (put_in_order nat_lt x) (sym (sorted-itself xs up))

-- what is left after a number is taken out ascends
pub left-ascends : (xs : List ℕ) (at : ℕ) → IsNonDecreasing xs → at < length xs → IsNonDecreasing (remove xs at)
left-ascends xs at up inside i j d order high = by (cases_lt i at) (cases_lt j at)
  where
    long : length (remove xs at) + 1 ≡ length xs
    long = length-remove xs at inside

    by : (i < at) ⊎ (at ≤ i) → (j < at) ⊎ (at ≤ j) → get_or (remove xs at) i d ≤ get_or (remove xs at) j d
    by (inl h) (inl k) = let e = get_or-remove_below xs at d i h inside in let f = get_or-remove_below xs at d j k inside in let l = up i j d order (omega (arith, long)) in omega (arith, long)
    by (inl h) (inr k) = let e = get_or-remove_below xs at d i h inside in let f = get_or-remove_above xs at d j k inside in let l = up i (j + 1) d (omega (arith, long)) (omega (arith, long)) in omega (arith, long)
    by (inr h) (inl k) = absurd (omega (arith, long))
    by (inr h) (inr k) = let e = get_or-remove_above xs at d i h inside in let f = get_or-remove_above xs at d j k inside in let l = up (i + 1) (j + 1) d (omega (arith, long)) (omega (arith, long)) in omega (arith, long)

-- put in again, it is as before
pub put-again : (xs : List ℕ) (at x : ℕ) → IsNonDecreasing xs → at < length xs → x ≡ get_or xs at x → xs ≡ put_in_order nat_lt x (remove xs at)
put-again xs at x up inside is =
    sorted-itself xs up
    ∙ (sorted-same (x ∷ remove xs at) xs (IsPermutation-sym xs (x ∷ remove xs at) (IsPermutation-remove xs at x inside is))
    ∙ ap (put_in_order nat_lt x) (sym (sorted-itself (remove xs at) (left-ascends xs at up inside))))

-- numbers without one that was put in
taken_out : ℕ → List ℕ → List ℕ
taken_out x [] = []
taken_out x (y ∷ ys) = cond (nat_lt y x) (y ∷ taken_out x ys) ys

taken_out-put : (x : ℕ) (ys : List ℕ) → taken_out x (put_in_order nat_lt x ys) ≡ ys
unfolding taken_out
taken_out-put x [] = rw (lt-not x x (omega arith)) refl
taken_out-put x (y ∷ ys) = by (taken_out-put x ys) (nat_lt y x) refl
  where
    by : taken_out x (put_in_order nat_lt x ys) ≡ ys → (b : Bool) → nat_lt y x ≡ b → taken_out x (cond b (y ∷ put_in_order nat_lt x ys) (x ∷ y ∷ ys)) ≡ y ∷ ys
    by rest true e = rw e (ap (λ (l : List ℕ). y ∷ l) rest)
    by rest false e = rw (lt-not x x (omega arith)) refl

-- lists that are equal with the same number more are equal
pub put-same : (x : ℕ) (xs ys : List ℕ) → put_in_order nat_lt x xs ≡ put_in_order nat_lt x ys → xs ≡ ys
put-same x xs ys e = sym (taken_out-put x xs) ∙ ap (taken_out x) e ∙ taken_out-put x ys
