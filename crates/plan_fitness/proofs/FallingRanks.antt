-- Ranks by falling numbers are ranks by rising shortfalls.
use Rattle.std.proofs.Common.{◌≡◌, ◌∙◌, sym, refl, ap, ap₂, ℕ, zero, suc, ◌<◌, ◌+◌, ◌-◌, ◌≤◌, ◌||◌, ◌&&◌, ◌==◌, nat_lt, Bool, cond, List, length, map, arith}
use Rattle.std.specs.Prelude.{All, count_by, slice_index}
use Rattle.std.specs.List.{range_with_len}
use Rattle.std.proofs.lemmas.Bool.Decides.{nat_tests}
use Rattle.std.proofs.lemmas.List.{get_or-map, length-map}
use Rattle.std.proofs.lemmas.List.Elements.{All-get_or}
use Rattle.std.proofs.lemmas.List.FromFn.{length-range_with_len}
use Rattle.std.proofs.lemmas.List.Sums.{count_by-le-length, sum_by-cons}
use Rattle.list_words.specs.Lists.{places_of, rank_falling, rank_rising}
use Rattle.plan_fitness.specs.inside.Ranked.{greatest, shortfall}

-- two tests that agree on some numbers hold of as many of them
same-count : (f g : ℕ → Bool) (a n : ℕ) → ((j : ℕ) → j < a + n → f j ≡ g j) → count_by f (range_with_len a n) ≡ count_by g (range_with_len a n)
same-count f g a zero same = refl
same-count f g a (suc n) same =
    let first : f a ≡ g a = same a (omega arith) in
    let rest = same-count f g (a + 1) n (λ j h. same j (omega arith)) in
    sum_by-cons (λ j. cond (f j) 1 0) a (range_with_len (a + 1) n)
    ∙ (ap₂ (λ (b : Bool) (m : ℕ). cond b 1 0 + m) first rest
    ∙ sym (sum_by-cons (λ j. cond (g j) 1 0) a (range_with_len (a + 1) n)))

flipped : (g x y i j : ℕ) → x ≤ g → y ≤ g → (nat_lt (g - x) (g - y) || ((g - x == g - y) && nat_lt j i)) ≡ (nat_lt y x || ((x == y) && nat_lt j i))
flipped g x y i j h k = grind (arith, nat_tests)

module _ (numbers : List ℕ) (range : All (λ n. n ≤ greatest) numbers) where
  short-at : (j : ℕ) → j < length numbers → slice_index (map shortfall numbers) j ≡ greatest - slice_index numbers j
  short-at j h = get_or-map shortfall numbers j 0 0 h

  within : (j : ℕ) → j < length numbers → slice_index numbers j ≤ greatest
  within j h = All-get_or (λ n. n ≤ greatest) numbers j 0 h range

  same-test : (i j : ℕ) → i < length numbers → j < length numbers →
      (nat_lt (slice_index (map shortfall numbers) j) (slice_index (map shortfall numbers) i)
      || ((slice_index (map shortfall numbers) j == slice_index (map shortfall numbers) i) && nat_lt j i))
      ≡ (nat_lt (slice_index numbers i) (slice_index numbers j) || ((slice_index numbers j == slice_index numbers i) && nat_lt j i))
  same-test i j h k =
      ap₂ (λ (x y : ℕ). nat_lt x y || ((x == y) && nat_lt j i)) (short-at j k) (short-at i h)
      ∙ flipped greatest (slice_index numbers j) (slice_index numbers i) i j (within j k) (within i h)

  -- the rank of a place
  pub falling-is : (i : ℕ) → i < length numbers → rank_rising (map shortfall numbers) i ≡ rank_falling numbers i
  falling-is i h =
      let test : ℕ → Bool = λ j. nat_lt (slice_index (map shortfall numbers) j) (slice_index (map shortfall numbers) i)
      || ((slice_index (map shortfall numbers) j == slice_index (map shortfall numbers) i) && nat_lt j i) in
      let falls : ℕ → Bool = λ j. nat_lt (slice_index numbers i) (slice_index numbers j) || ((slice_index numbers j == slice_index numbers i) && nat_lt j i) in
      ap (λ (n : ℕ). count_by test (range_with_len 0 n)) (length-map numbers shortfall)
      ∙ same-count test falls 0 (length numbers) (λ j k. same-test i j h (omega arith))

-- no rank is above the length
pub rank-within : (values : List ℕ) (i : ℕ) → rank_rising values i ≤ length values
rank-within values i =
    let test : ℕ → Bool = λ j. nat_lt (slice_index values j) (slice_index values i) || ((slice_index values j == slice_index values i) && nat_lt j i) in
    let few = count_by-le-length test (places_of values) in
    omega (arith, length-range_with_len 0 (length values))
