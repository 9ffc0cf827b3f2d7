use Rattle.std.proofs.Common.{◌≡◌, ◌∙◌, sym, subst, ap, ℕ, ◌||◌, ◌&&◌, ◌==◌, nat_lt, List, length, drop, get_or, ◌+◌, arith}
use Rattle.std.specs.List.Sorted.{IsPermutation}
use Rattle.std.specs.Ordering.{is_lt, nat_cmp, ordering_then}
use Rattle.std.proofs.lemmas.Bool.Decides.{nat_tests}
use Rattle.std.proofs.lemmas.List.{take_at}
use Rattle.plan_fitness.specs.inside.Ranked.{AreInOrder}
use Rattle.plan_fitness.proofs.ranking.in_order.Goals as goal

compares : (a b c d : ℕ) → is_lt (ordering_then (nat_cmp a c) (nat_cmp b d)) ≡ (nat_lt a c || ((a == c) && nat_lt b d))
compares a b c d = grind (arith, nat_tests)

pub returns : goal.returns
returns c =
    let items = c.placed-pairs.result.items in
    let sorted = c.sort_unstable.new.self in
    let from = c.deref_mut.ensures.value ∙ c.placed-pairs.ensures in
    let long : length sorted ≡ length items = c.sort_unstable.ensures.len ∙ ap length c.deref_mut.ensures.value in
    let all = take_at sorted (drop (length sorted) items) (length items) long in
    subst (AreInOrder c.args.values.now) (sym all) (record {
      moves = subst (λ (l : List (ℕ × ℕ)). IsPermutation l sorted) from c.sort_unstable.ensures.permutation;
      ascends = λ k d l m. sym (compares (get_or sorted (k + 1) d).0 (get_or sorted (k + 1) d).1 (get_or sorted k d).0 (get_or sorted k d).1) ∙ c.sort_unstable.ensures.sorted k d l m;
    })
