use Rattle.std.proofs.Common.{◌≡◌, ◌∙◌, ◌<◌, List, length, map, get_or, take_all, ap, arith, subst, sym}
use Rattle.std.specs.Prelude.{pos}
use Rattle.routing_model.specs.Cost.{solution_cost}
use Rattle.genetic_model.specs.Fitness.{item_at}
use Rattle.plan_fitness.specs.declared.weighing.PlanCost.{PlanCost}
use Rattle.plan_fitness.specs.PlanCosts.{IsPlanCost}
use Rattle.subpopulation.specs.Kept.{plans_of}
use Rattle.subpopulation.proofs.KeptCosts.{weighed-more}
use Rattle.subpopulation.proofs.list.Subpopulation.costs_by.Goals as goal

abbrev nothing : PlanCost
nothing = record { cost = 0; excess = record { load = pos 0; warp = pos 0; distance = pos 0 } }

pub loop-cost-preserved : goal.loop-cost-preserved
loop-cost-preserved c =
    let list = c.args.self.now in
    let plans = plans_of list in
    let k = c.loop-cost.cost-index in
    let same : length c.as_slice-cost-items.result.now ≡ length list.costs.items = ap length c.as_slice-cost-items.ensures.value in
    let many = c.requires.costs.as_many in
    let t = c.loop-cost-test.true in
    let low : k < length list.costs.items = omega arith in
    let inside : k < length plans = omega arith in
    record {
      many = let l = c.push.ensures.len in let m = c.loop-cost.invariant.many in omega arith;
      weighed = λ p is.
          c.push.ensures.items
          ∙ weighed-more p c.args.weights plans c.loop-cost.costs.items k c.weighed.result inside (c.loop-cost.invariant.weighed p is)
          (c.weighed.ensures p (item_at plans k) (subst (λ (xs : List PlanCost). IsPlanCost p (item_at plans k) (get_or xs k nothing)) (sym c.as_slice-cost-items.ensures.value) (is.costs.each k nothing low)));
    }

pub returns-clause-costs : goal.returns-clause-costs
returns-clause-costs c = λ p is.
    let list = c.args.self.now in
    let plans = plans_of list in
    let same : length c.as_slice-cost-items.result.now ≡ length list.costs.items = ap length c.as_slice-cost-items.ensures.value in
    let many = c.requires.costs.as_many in
    let t = c.loop-cost-test.false in
    c.loop-cost.invariant.weighed p is ∙ ap (map (solution_cost p c.args.weights)) (take_all c.loop-cost.cost-index plans (omega arith))
