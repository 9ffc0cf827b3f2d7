use Rattle.std.proofs.Common.{◌≡◌, ◌∙◌, ◌++◌, ◌+◌, ◌-◌, ◌%◌, ◌∷◌, [], ℕ, List, ap, arith, get_or, length, sym}
use Rattle.std.proofs.lemmas.List.FromFn.{map-range_with_len_more}
use Rattle.genetic_model.specs.RouteSelection.{around}
use Rattle.srex.proofs.selected.selected.Goals as goal

pub loop-at-preserved : goal.loop-at-preserved
loop-at-preserved c =
    let order = c.args.order.now in
    let start : ℕ = c.args.start in
    let at : ℕ = c.loop-at.at in
    let turn : ℕ → ℕ = λ (i : ℕ). get_or order (i % length order) 0 in
    let begun = c.loop-at.invariant.begun in
    let one_more : (at - start) + 1 ≡ at + 1 - start = omega arith in
    let before : List ℕ = c.loop-at.vehicles.items in
    let pushed : before ++ turn at ∷ [] ≡ around order start (at - start) ++ turn at ∷ [] = ap (λ (xs : List ℕ). xs ++ turn at ∷ []) c.loop-at.invariant.vehicles in
    let longer : around order start (at - start) ++ turn at ∷ [] ≡ around order start ((at - start) + 1) = sym (map-range_with_len_more turn start (at - start) at (omega arith)) in
    let vehicles : before ++ turn at ∷ [] ≡ around order start (at + 1 - start) = pushed ∙ (longer ∙ ap (around order start) one_more) in
    record {
      begun = omega arith;
      vehicles = c.in_ok-push.ensures.items ∙ vehicles;
    }

pub returns : goal.returns
returns c =
    let begun = c.loop-at.invariant.begun in
    let all : c.loop-at.at - c.args.start ≡ c.args.count = omega arith in
    c.loop-at.invariant.vehicles ∙ ap (around c.args.order.now c.args.start) all
