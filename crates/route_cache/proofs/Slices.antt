-- Parts of lists.
use Rattle.std.proofs.Common.{◌≡◌, ℕ, ◌+◌, ◌-◌, ◌<◌, ◌≤◌, List, [], ◌∷◌, ◌++◌, length, get_or, take, drop, ◌∙◌, ap, sym, arith, slice_range, Some, drop-drop}
use Rattle.std.proofs.Math.Seq.{take-add}
use Rattle.std.proofs.lemmas.List.{drop_more, take_all}
use Rattle.std.proofs.lemmas.Option.{slice_get-get_or}

-- one part behind another
pub slice-split : {X : Type 0} (xs : List X) (a b c : ℕ) → a ≤ b → b ≤ c → slice_range xs a c ≡ slice_range xs a b ++ slice_range xs b c
slice-split xs a b c h k =
    let n : c - a ≡ (b - a) + (c - b) = omega arith in
    let m : a + (b - a) ≡ b = omega arith in
    ap (λ (n : ℕ). take n (drop a xs)) n
    ∙ take-add (b - a) (c - b) (drop a xs)
    ∙ ap (λ ys. take (b - a) (drop a xs) ++ take (c - b) ys) (drop-drop (b - a) a xs ∙ ap (λ (n : ℕ). drop n xs) m)

-- nothing
pub slice-none : {X : Type 0} (xs : List X) (k : ℕ) → slice_range xs k k ≡ []
slice-none xs k = let n : k - k ≡ 0 = omega arith in ap (λ (n : ℕ). take n (drop k xs)) n

-- one item
pub slice-one : {X : Type 0} (xs : List X) (k : ℕ) (none : X) → k < length xs → slice_range xs k (k + 1) ≡ get_or xs k none ∷ []
slice-one xs k none h =
    let n : k + 1 - k ≡ 1 = omega arith in
    ap (λ (n : ℕ). take n (drop k xs)) n ∙ ap (take 1) (drop_more xs k none h)

-- one item more
pub slice-more : {X : Type 0} (xs : List X) (a k : ℕ) (none : X) → a ≤ k → k < length xs → slice_range xs a (k + 1) ≡ slice_range xs a k ++ get_or xs k none ∷ []
slice-more xs a k none h here = slice-split xs a k (k + 1) h (omega arith) ∙ ap (λ ys. slice_range xs a k ++ ys) (slice-one xs k none here)

-- one item more at the beginning
pub slice-before : {X : Type 0} (xs : List X) (k c : ℕ) (none : X) → k < c → k < length xs → slice_range xs k c ≡ get_or xs k none ∷ slice_range xs (k + 1) c
slice-before xs k c none h here = slice-split xs k (k + 1) c (omega arith) (omega arith) ∙ ap (λ ys. ys ++ slice_range xs (k + 1) c) (slice-one xs k none here)

-- all of them
pub slice-all : {X : Type 0} (xs : List X) (n : ℕ) → length xs ≤ n → slice_range xs 0 n ≡ xs
slice-all xs n h = take_all (n - 0) xs (omega arith)

-- what stands at a place doesn't depend on what stands nowhere
pub get_or-any : {X : Type 0} (xs : List X) (k : ℕ) (a b : X) → k < length xs → get_or xs k a ≡ get_or xs k b
get_or-any xs k a b h = same (get_or xs k a) (get_or xs k b) (sym (slice_get-get_or xs k a h) ∙ slice_get-get_or xs k b h)
  where
    same : {X : Type 0} (x y : X) → Some x ≡ Some y → x ≡ y
    same x y e = cc
