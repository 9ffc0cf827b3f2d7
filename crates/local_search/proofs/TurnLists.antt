-- Parts of nested lists, and the parts of a client's candidates with a neighbour and with a vehicle type.
use Rattle.std.proofs.Common.{◌≡◌, ◌∙◌, ℕ, ◌+◌, ◌<◌, List, [], ◌∷◌, ◌++◌, length, take, drop, get_or, refl, sym, ap, arith}
use Rattle.std.specs.Prelude.{flat_map}
use Rattle.std.specs.List.{range_with_len}
use Rattle.std.proofs.lemmas.List.{append-nil, append_assoc, take_more, take-append-drop}
use Rattle.std.proofs.lemmas.List.FromFn.{get_or-range_with_len}
use Rattle.search_model.specs.Candidates.{neighbour_candidates, unused_candidates}
use Rattle.local_search.specs.inside.Turns.{empty_candidates, leaving_candidates, moving_candidates, putting_candidates}

pub flat_join : {X Y : Type 0} (f : X → List Y) (xs ys : List X) → flat_map f (xs ++ ys) ≡ flat_map f xs ++ flat_map f ys
flat_join f [] ys = refl
flat_join f (x ∷ xs) ys = ap (λ zs. f x ++ zs) (flat_join f xs ys) ∙ sym (append_assoc (f x) (flat_map f xs) (flat_map f ys))

-- one more item of a nested list
pub flat_more : {X Y : Type 0} (f : X → List Y) (xs : List X) (i : ℕ) (d : X) → i < length xs → flat_map f (take (i + 1) xs) ≡ flat_map f (take i xs) ++ f (get_or xs i d)
flat_more f xs i d l = ap (flat_map f) (take_more xs i d l) ∙ flat_join f (take i xs) (get_or xs i d ∷ []) ∙ ap (λ zs. flat_map f (take i xs) ++ zs) (append-nil (f (get_or xs i d)))

-- a nested list, cut behind some of its items
pub flat_cut : {X Y : Type 0} (f : X → List Y) (xs : List X) (i : ℕ) → flat_map f (take i xs) ++ flat_map f (drop i xs) ≡ flat_map f xs
flat_cut f xs i = sym (flat_join f (take i xs) (drop i xs)) ∙ ap (flat_map f) (take-append-drop i xs)

-- a number among the first ones
pub number_at : (n i : ℕ) → i < n → get_or (range_with_len 0 n) i 0 ≡ i
number_at n i l = get_or-range_with_len 0 n i 0 l ∙ omega arith

-- and among those from one on
pub number_from : (from n i : ℕ) → i < n → get_or (range_with_len from n) i 0 ≡ from + i
number_from from n i l = get_or-range_with_len from n i 0 l ∙ omega arith

-- the kinds that move a client, and those that put one in
pub neighbour-parts : (u v : ℕ) → moving_candidates u v ++ putting_candidates u v ≡ neighbour_candidates u v
neighbour-parts u v = refl

pub unused-parts : (u type : ℕ) → leaving_candidates u type ++ empty_candidates u type 13 ≡ unused_candidates u type
unused-parts u type = refl
