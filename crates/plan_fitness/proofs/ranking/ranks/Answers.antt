use Rattle.std.proofs.Common.{◌≡◌, ◌∙◌, sym, ap, subst, ℕ, ◌+◌, ◌<◌, ◌≤◌, List, length, arith, get_or, ⊎_elim}
use Rattle.std.specs.Prelude.{slice_index, slice_set}
use Rattle.std.proofs.Math.ListN.{set}
use Rattle.std.proofs.lemmas.Bool.{cases_eq}
use Rattle.std.proofs.lemmas.List.{get_or_default, get_or-set_other, get_or-set_same, length-set}
use Rattle.list_words.specs.Lists.{rank_rising}
use Rattle.plan_fitness.specs.inside.Ranked.{AreInOrder}
use Rattle.plan_fitness.proofs.Ranks.{found, placed-at, rank-at}
use Rattle.plan_fitness.proofs.ranking.ranks.Goals as goal

-- the places of the first n pairs have their ranks
abbrev AreRanked : List ℕ → List ℕ → List (ℕ × ℕ) → ℕ → Type 0
AreRanked values ranks pairs n = (k : ℕ) (d : ℕ × ℕ) → k < n → slice_index ranks (get_or pairs k d).1 ≡ rank_rising values (get_or pairs k d).1

-- one more
one-more : (values ranks : List ℕ) (pairs : List (ℕ × ℕ)) → AreInOrder values pairs → (n : ℕ) → n < length pairs → length values ≤ length ranks →
    AreRanked values ranks pairs n → AreRanked values (slice_set ranks (get_or pairs n (0, 0)).1 n) pairs (n + 1)
one-more values ranks pairs order n h room done k d l =
    let p : ℕ = (get_or pairs n (0, 0)).1 in
    let q : ℕ = (get_or pairs k d).1 in
    let within : p < length values = (placed-at values pairs order n (0, 0) h).there in
    let here : slice_index (set ranks p n) p ≡ rank_rising values p = get_or-set_same ranks p n 0 (omega arith) ∙ sym (rank-at values pairs order n (0, 0) h) in
    ⊎_elim
    (λ (e : q ≡ p). subst (λ (j : ℕ). slice_index (set ranks p n) j ≡ rank_rising values j) (sym e) here)
    (λ apart.
    let earlier : k < n = ⊎_elim
    (λ (e : k ≡ n). absurd (apart (ap (λ (j : ℕ). (get_or pairs j d).1) e ∙ ap (λ (x : ℕ × ℕ). x.1) (get_or_default pairs n d (0, 0) h))))
    (λ other. omega arith) (cases_eq k n) in
    get_or-set_other ranks p q n 0 apart ∙ done k d earlier)
    (cases_eq q p)

pub bounds-ranks-pair : goal.bounds-ranks-pair
bounds-ranks-pair c =
    let values = c.args.values.now in
    let pairs = c.as_slice-pair-items.result.now in
    let order = subst (AreInOrder values) (sym c.as_slice-pair-items.ensures.value) c.in_order-pairs.ensures in
    let there : (get_or pairs c.loop-rank.rank (0, 0)).1 < length values = (placed-at values pairs order c.loop-rank.rank (0, 0) c.loop-rank-test.true).there in
    omega arith

pub loop-rank-preserved : goal.loop-rank-preserved
loop-rank-preserved c =
    let values = c.args.values.now in
    let pairs = c.as_slice-pair-items.result.now in
    let order = subst (AreInOrder values) (sym c.as_slice-pair-items.ensures.value) c.in_order-pairs.ensures in (
      length-set c.loop-rank.ranks (get_or pairs c.loop-rank.rank (0, 0)).1 c.loop-rank.rank ∙ c.loop-rank.invariant.0,
      one-more values c.loop-rank.ranks pairs order c.loop-rank.rank c.loop-rank-test.true (omega arith) c.loop-rank.invariant.1,
    )

pub returns : goal.returns
returns c = λ i h.
    let values = c.args.values.now in
    let pairs = c.as_slice-pair-items.result.now in
    let order = subst (AreInOrder values) (sym c.as_slice-pair-items.ensures.value) c.in_order-pairs.ensures in
    let there = found values pairs order i h in
    let behind : there.0 < c.loop-rank.rank = omega (arith, c.loop-rank-test.false, there.1) in
    subst (λ (j : ℕ). slice_index c.loop-rank.ranks j ≡ rank_rising values j) (ap (λ (x : ℕ × ℕ). x.1) there.2)
    (c.loop-rank.invariant.1 there.0 (slice_index values i, i) behind)
