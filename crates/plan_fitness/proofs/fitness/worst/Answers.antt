use Rattle.std.proofs.Common.{◌≡◌, ◌∙◌, sym, ap, subst, ℕ, ◌+◌, ◌<◌, ◌≤◌, List, length, take, true, false, get_or, arith}
use Rattle.std.specs.Prelude.{nat_le, slice_index, Bool}
use Rattle.std.specs.List.{best_of, range_with_len}
use Rattle.std.proofs.lemmas.Bool.Decides.{nat_tests}
use Rattle.std.proofs.lemmas.List.{take_all}
use Rattle.std.proofs.lemmas.List.FromFn.{get_or-range_with_len, length-range_with_len}
use Rattle.std.proofs.lemmas.List.MinMax.{best_of_keeps, best_of_takes}
use Rattle.list_words.specs.Lists.{places_of}
use Rattle.plan_fitness.proofs.fitness.worst.Goals.{then-fitnesses-worst, else-fitnesses-worst}
use Rattle.plan_fitness.proofs.fitness.worst.Goals as goal

-- whether the number at a place is no less than that at another
abbrev beats : List ℕ → ℕ → ℕ → Bool
beats fs j i = nat_le (slice_index fs i) (slice_index fs j)

-- the worst of the first n places
abbrev worst_of : List ℕ → ℕ → ℕ
worst_of fs n = best_of (beats fs) 0 (take n (places_of fs))

is-le : (a b : ℕ) → a ≤ b → nat_le a b ≡ true
is-le a b h = grind (arith, nat_tests)

is-not-le : (a b : ℕ) → b < a → nat_le a b ≡ false
is-not-le a b h = grind (arith, nat_tests)

place-is : (n i : ℕ) → i < n → i ≡ get_or (range_with_len 0 n) i i
place-is n i h = let e = get_or-range_with_len 0 n i i h in omega arith

taken : (fs : List ℕ) (w i : ℕ) → i < length fs → w ≡ worst_of fs i → slice_index fs w ≤ slice_index fs i → i ≡ worst_of fs (i + 1)
taken fs w i h e le =
    let long : i < length (places_of fs) = omega (arith, length-range_with_len 0 (length fs)) in
    best_of_takes (beats fs) 0 (places_of fs) i i w long (place-is (length fs) i h) e (is-le (slice_index fs w) (slice_index fs i) le)

kept : (fs : List ℕ) (w i : ℕ) → i < length fs → w ≡ worst_of fs i → slice_index fs i < slice_index fs w → w ≡ worst_of fs (i + 1)
kept fs w i h e lt =
    let long : i < length (places_of fs) = omega (arith, length-range_with_len 0 (length fs)) in
    best_of_keeps (beats fs) 0 (places_of fs) i i w long (place-is (length fs) i h) e (is-not-le (slice_index fs w) (slice_index fs i) lt)

pub loop-place-preserved : goal.loop-place-preserved
loop-place-preserved c =
    let fs = c.args.fitnesses.now in
    let i = c.loop-place.place in
    elim c.if-fitnesses-worst.branch [
      | then-fitnesses-worst w ↦ subst (λ (v : ℕ). (v < length fs) × (v ≡ worst_of fs (i + 1))) (sym w.worst-is)
          (c.loop-place-test.true, taken fs c.loop-place.worst i c.loop-place-test.true c.loop-place.invariant.1 w.if-fitnesses-worst.true)
      | else-fitnesses-worst w ↦ subst (λ (v : ℕ). (v < length fs) × (v ≡ worst_of fs (i + 1))) (sym w.worst-is)
          (c.loop-place.invariant.0, kept fs c.loop-place.worst i c.loop-place-test.true c.loop-place.invariant.1 w.if-fitnesses-worst.false)
    ]

pub returns-clause-place : goal.returns-clause-place
returns-clause-place c =
    let fs = c.args.fitnesses.now in
    let i = c.loop-place.place in
    let long : length (places_of fs) ≤ i = omega (arith, length-range_with_len 0 (length fs), c.loop-place-test.false) in
    c.loop-place.invariant.1 ∙ ap (best_of (beats fs) 0) (take_all i (places_of fs) long)
