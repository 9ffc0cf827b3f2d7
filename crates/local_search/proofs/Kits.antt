-- One operator of a kit is called, and all of them one after the other.
use Rattle.std.proofs.Common.{◌≡◌, ◌∙◌, ◌≤◌, ◌<◌, ◌+◌, ℕ, List, length, map, get_or, set, take, drop, ap, sym, arith, subst}
use Rattle.std.specs.List.{All}
use Rattle.std.proofs.lemmas.List.{get_or-map, length-map, map-set, set-get_or, take_all, drop-set-lt}
use Rattle.std.proofs.lemmas.Grind.{common_steps, drop_more_same}
use Rattle.problem_data.specs.Reads.{OneMore}
use Rattle.move_core.specs.declared.tally.Tally.{Tally}
use Rattle.local_search.specs.Counts.{RoseTogether}
use Rattle.local_search.specs.inside.Kits.{OneApplied}
use Rattle.local_search.proofs.Rises.{together_one}

-- what holds of the first items holds of one more, where another is put
pub All-take_more : {X : Type 0} (xs : List X) (i : ℕ) (y : X) (P : X → Type 0) → i < length xs → All P (take i xs) → P y → All P (take (i + 1) (set xs i y))
All-take_more xs i y P h a p = grind (arith, common_steps)

-- what holds of as many items as there are holds of all
pub All-take_all : {X : Type 0} (xs : List X) (i : ℕ) (P : X → Type 0) → length xs ≤ i → All P (take i xs) → All P xs
All-take_all xs i P h a = rw (take_all i xs h) at a

-- two lists with the same items left have the same first of them
pub first_left : {X : Type 0} (xs ys : List X) (i : ℕ) (d : X) → drop i xs ≡ drop i ys → get_or xs i d ≡ get_or ys i d
first_left xs ys i d e = grind (arith, common_steps)

-- and the same items left after it, whatever is put in its place
pub still_left : {X : Type 0} (xs ys : List X) (i : ℕ) (y : X) → drop i xs ≡ drop i ys → drop (i + 1) (set xs i y) ≡ drop (i + 1) ys
still_left xs ys i y e =
    drop-set-lt (i + 1) xs i y (omega arith) ∙ drop_more_same xs ys i e

module _ {X : Type 0} (F : X → Tally) (f : Tally → ℕ) (xs : List X) (i : ℕ) (y d : X) (inside : i < length xs) where
  -- a count of one item after another was put in its place
  count_set : map f (map F (set xs i y)) ≡ set (map f (map F xs)) i (f (F y))
  count_set = ap (λ (ts : List Tally). map f ts) (map-set F xs i y) ∙ map-set f (map F xs) i (F y)

  count_at : get_or (map f (map F xs)) i 0 ≡ f (F (get_or xs i d))
  count_at = get_or-map f (map F xs) i (F d) 0 (rw (length-map xs F) inside) ∙ ap f (get_or-map F xs i d (F d) inside)

  pub count_kept : f (F y) ≡ f (F (get_or xs i d)) → map f (map F (set xs i y)) ≡ map f (map F xs)
  count_kept e = count_set ∙ ap (λ (n : ℕ). set (map f (map F xs)) i n) (e ∙ sym count_at) ∙ set-get_or (map f (map F xs)) i 0

  pub count_rose : OneMore (f (F (get_or xs i d))) (f (F y)) → RoseTogether 1 (map f (map F xs)) (map f (map F (set xs i y)))
  count_rose e =
      subst (λ (ns : List ℕ). RoseTogether 1 (map f (map F xs)) ns) (sym count_set)
      (together_one (map f (map F xs)) i (f (F y)) (rw (length-map (map F xs) f, length-map xs F) inside) (subst (λ (n : ℕ). OneMore n (f (F y))) (sym count_at) e))

  pub count_one : OneMore (f (F (get_or xs i d))) (f (F y)) → OneApplied i (map f (map F xs)) (map f (map F (set xs i y)))
  count_one e = record { count = f (F y); rose = subst (λ (n : ℕ). OneMore n (f (F y))) (sym count_at) e; others = count_set }
