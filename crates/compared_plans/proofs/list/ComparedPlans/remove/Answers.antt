use Rattle.std.proofs.Common.{◌∙◌, ◌<◌, List, ap, arith, length, subst, sym}
use Rattle.std.proofs.lemmas.List.{with_items_is}
use Rattle.compared_plans.specs.declared.item.ComparedPlan.{ComparedPlan}
use Rattle.compared_plans.specs.Compared.{AreComparedBy, plans_in}
use Rattle.compared_plans.specs.inside.Numbers.{near_while_removing}
use Rattle.compared_plans.proofs.ComparedItems.{as-many}
use Rattle.compared_plans.proofs.NearSteps.{compared-without, plans-without}
use Rattle.compared_plans.proofs.list.ComparedPlans.remove.Goals as goal

pub forget_plan-requires-clause-compared : goal.forget_plan-requires-clause-compared
forget_plan-requires-clause-compared c =
    let p = c.args.given.now in
    let items = c.args.self.now.items.items in
    let gone = c.remove-gone.result in
    let inside : c.args.place < length items = let m = as-many items in let q = c.requires.place in omega arith in
    subst (λ (xs : List ComparedPlan). AreComparedBy p (near_while_removing p (plans_in xs) gone.plan.routes c.args.place 0) xs) (sym (c.as_mut_slice.ensures.value ∙ c.remove-gone.ensures.items))
    (compared-without p items gone c.args.place inside c.remove-gone.ensures.value c.requires.compared)

pub returns-clause-plans : goal.returns-clause-plans
returns-clause-plans c =
    ap plans_in (with_items_is c.remove-gone.new.self c.forget_plan.new.items (c.forget_plan.auto.items ∙ c.as_mut_slice.ensures.len))
    ∙ (c.forget_plan.ensures.plans ∙ (ap plans_in (c.as_mut_slice.ensures.value ∙ c.remove-gone.ensures.items) ∙ plans-without c.args.self.now.items.items c.args.place))
