use Rattle.std.proofs.Common.{◌≡◌, ◌∙◌, ◌++◌, ◌∷◌, [], List, ℕ, length, map, ap, ap₂, arith, sym}
use Rattle.std.specs.List.{range_with_len}
use Rattle.std.proofs.lemmas.List.FromFn.{map-range_with_len_more}
use Rattle.genetic_model.specs.Fitness.{diversity}
use Rattle.subpopulation.specs.Kept.{plans_of}
use Rattle.subpopulation.proofs.list.Subpopulation.diversities.Goals as goal

pub loop-place-preserved : goal.loop-place-preserved
loop-place-preserved c =
    let plans = plans_of c.args.self.now in
    let n = c.loop-place.place in
    record {
      many = let l = c.push.ensures.len in let m = c.loop-place.invariant.many in omega arith;
      diverse = λ p is.
          c.push.ensures.items
          ∙ (ap₂ (λ (xs : List ℕ) (x : ℕ). xs ++ x ∷ []) (c.loop-place.invariant.diverse p is) (c.diversity.ensures p is.compared)
          ∙ sym (map-range_with_len_more (diversity p c.args.params plans) 0 n n (omega arith)));
    }

pub returns-clause-diversities : goal.returns-clause-diversities
returns-clause-diversities c = λ p is.
    let plans = plans_of c.args.self.now in
    let end = c.loop-place.auto.place-end in
    let done = c.loop-place-test.false in
    let size = c.len-place-end.ensures in
    let all : c.loop-place.place ≡ length plans = omega arith in
    c.loop-place.invariant.diverse p is ∙ ap (λ (n : ℕ). map (diversity p c.args.params plans) (range_with_len 0 n)) all
