-- Runs of lists that are put together, and a list without one of its elements and with another one.
use Rattle.std.proofs.Common.{◌≡◌, ℕ, ◌+◌, ◌-◌, ◌≤◌, List, [], ◌∷◌, ◌++◌, length, length-append, take, drop, refl, sym, ◌∙◌, ap, ap₂, arith, append_assoc, slice_range}
use Rattle.std.specs.Prelude.{insert}
use Rattle.std.proofs.lemmas.List.{length-take-le}

-- up to the end of the first part, and from there on
first-part : {X : Type 0} (xs ys : List X) → take (length xs) (xs ++ ys) ≡ xs
first-part [] ys = refl
first-part {X = X} (x ∷ xs) ys = ap (λ (zs : List X). x ∷ zs) (first-part xs ys)

last-part : {X : Type 0} (xs ys : List X) → drop (length xs) (xs ++ ys) ≡ ys
last-part [] ys = refl
last-part (x ∷ xs) ys = last-part xs ys

pub slice-first : {X : Type 0} (xs ys : List X) (n : ℕ) → n ≡ length xs → slice_range (xs ++ ys) 0 n ≡ xs
slice-first {X = X} xs ys n e = let m : n - 0 ≡ length xs = omega (arith, e) in ap (λ (k : ℕ). take k (xs ++ ys)) m ∙ first-part xs ys

-- a part in the middle
pub slice-middle : {X : Type 0} (xs ys zs : List X) (m n : ℕ) → m ≡ length xs → n ≡ length xs + length ys → slice_range (xs ++ (ys ++ zs)) m n ≡ ys
slice-middle {X = X} xs ys zs m n e f =
    let size : n - m ≡ length ys = omega (arith, e, f) in
    ap₂ (λ (k : ℕ) (ws : List X). take k ws) size (ap (λ (k : ℕ). drop k (xs ++ (ys ++ zs))) e ∙ last-part xs (ys ++ zs)) ∙ first-part ys zs

-- the last part
pub slice-last : {X : Type 0} (xs ys : List X) (m : ℕ) → m ≡ length xs → slice_range (xs ++ ys) m (length (xs ++ ys)) ≡ ys
slice-last {X = X} xs ys m e =
    let long = length-append xs ys in
    let size : length (xs ++ ys) - m ≡ length ys = omega (arith, e, long) in
    ap₂ (λ (k : ℕ) (ws : List X). take k ws) size (ap (λ (k : ℕ). drop k (xs ++ ys)) e ∙ last-part xs ys) ∙ (ap (take (length ys)) (sym (none ys)) ∙ first-part ys [])
  where
    none : (ws : List X) → ws ++ [] ≡ ws
    none [] = refl
    none (w ∷ ws) = ap (λ (zs : List X). w ∷ zs) (none ws)

-- an element put in between two parts
pub insert-between : {X : Type 0} (xs ys : List X) (n : ℕ) (x : X) → n ≡ length xs → insert (xs ++ ys) n x ≡ xs ++ x ∷ ys
insert-between {X = X} xs ys n x e =
    ap (λ (k : ℕ). insert (xs ++ ys) k x) e ∙ ap₂ (λ (vs ws : List X). vs ++ x ∷ ws) (first-part xs ys) (last-part xs ys)

-- a list cut at a place
pub cut-length : {X : Type 0} (n : ℕ) (xs : List X) → n ≤ length xs → n ≡ length (take n xs)
cut-length n xs h = sym (length-take-le n xs h)

module _ {X : Type 0} (xs ys : List X) (u : X) (zs : List X) (y : X) where
  -- the new element before the one that goes: xs, y, ys, zs, where the list is xs, ys, u, zs
  abbrev whole-early : List X
  whole-early = xs ++ (ys ++ u ∷ zs)

  pub early-cut : (k i n : ℕ) → k ≡ length xs → i ≡ length xs + length ys → n ≡ length whole-early →
      slice_range whole-early 0 k ++ ([] ++ ((y ∷ []) ++ (slice_range whole-early k i ++ slice_range whole-early (i + 1) n))) ≡ insert (xs ++ (ys ++ zs)) k y
  early-cut k i n e f g =
      let from : slice_range whole-early 0 k ≡ xs = slice-first xs (ys ++ u ∷ zs) k e in
      let middle : slice_range whole-early k i ≡ ys = slice-middle xs ys (u ∷ zs) k i e f in
      let last : slice_range whole-early (i + 1) n ≡ zs = behind in
      ap₂ (λ (vs ws : List X). vs ++ y ∷ ws) from (ap₂ (λ (vs ws : List X). vs ++ ws) middle last) ∙ sym (insert-between xs (ys ++ zs) k y e)
    where
      regroup : whole-early ≡ (xs ++ (ys ++ u ∷ [])) ++ zs
      regroup = ap (λ (ws : List X). xs ++ ws) (sym (append_assoc ys (u ∷ []) zs)) ∙ sym (append_assoc xs (ys ++ u ∷ []) zs)

      place : i + 1 ≡ length (xs ++ (ys ++ u ∷ []))
      place = let a = length-append xs (ys ++ u ∷ []) in let b = length-append ys (u ∷ []) in omega (arith, f, a, b)

      behind : slice_range whole-early (i + 1) n ≡ zs
      behind = ap₂ (λ (ws : List X) (m : ℕ). slice_range ws (i + 1) m) regroup (g ∙ ap (λ (ws : List X). length ws) regroup) ∙ slice-last (xs ++ (ys ++ u ∷ [])) zs (i + 1) place

  -- and behind it: xs, ys, y, zs, where the list is xs, u, ys, zs
  abbrev whole-late : List X
  whole-late = xs ++ u ∷ (ys ++ zs)

  pub late-cut : (i k n : ℕ) → i ≡ length xs → k ≡ length xs + length ys → n ≡ length whole-late →
      slice_range whole-late 0 i ++ (slice_range whole-late (i + 1) (k + 1) ++ ((y ∷ []) ++ ([] ++ slice_range whole-late (k + 1) n))) ≡ insert (xs ++ (ys ++ zs)) k y
  late-cut i k n e f g =
      let from : slice_range whole-late 0 i ≡ xs = slice-first xs (u ∷ (ys ++ zs)) i e in
      let middle : slice_range whole-late (i + 1) (k + 1) ≡ ys = ap (λ (ws : List X). slice_range ws (i + 1) (k + 1)) regroup ∙ slice-middle (xs ++ u ∷ []) ys zs (i + 1) (k + 1) first-end second-end in
      ap₂ (λ (vs ws : List X). vs ++ ws) from (ap₂ (λ (vs ws : List X). vs ++ y ∷ ws) middle last)
      ∙ (sym (append_assoc xs ys (y ∷ zs)) ∙ (sym (insert-between (xs ++ ys) zs k y inner) ∙ ap (λ (ws : List X). insert ws k y) (append_assoc xs ys zs)))
    where
      regroup : whole-late ≡ (xs ++ u ∷ []) ++ (ys ++ zs)
      regroup = sym (append_assoc xs (u ∷ []) (ys ++ zs))

      first-end : i + 1 ≡ length (xs ++ u ∷ [])
      first-end = let a = length-append xs (u ∷ []) in omega (arith, e, a)

      second-end : k + 1 ≡ length (xs ++ u ∷ []) + length ys
      second-end = let a = length-append xs (u ∷ []) in omega (arith, f, a)

      inner : k ≡ length (xs ++ ys)
      inner = let a = length-append xs ys in omega (arith, f, a)

      regroup-last : whole-late ≡ ((xs ++ u ∷ []) ++ ys) ++ zs
      regroup-last = regroup ∙ sym (append_assoc (xs ++ u ∷ []) ys zs)

      last-end : k + 1 ≡ length ((xs ++ u ∷ []) ++ ys)
      last-end = let a = length-append (xs ++ u ∷ []) ys in omega (arith, second-end, a)

      last : slice_range whole-late (k + 1) n ≡ zs
      last = ap₂ (λ (ws : List X) (m : ℕ). slice_range ws (k + 1) m) regroup-last (g ∙ ap (λ (ws : List X). length ws) regroup-last) ∙ slice-last ((xs ++ u ∷ []) ++ ys) zs (k + 1) last-end
