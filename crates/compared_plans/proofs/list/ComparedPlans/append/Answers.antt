use Rattle.std.proofs.Common.{◌≡◌, ◌∙◌, List, length, rules, subst, sym}
use Rattle.compared_plans.specs.declared.item.ComparedPlan.{ComparedPlan}
use Rattle.compared_plans.specs.Compared.{AreComparedBy, plans_in}
use Rattle.compared_plans.specs.inside.Numbers.{near_while_comparing}
use Rattle.compared_plans.proofs.NearSteps.{compared-push}
use Rattle.compared_plans.proofs.list.ComparedPlans.append.Goals as goal

pub compare_last-requires-clause-compared : goal.compare_last-requires-clause-compared
compare_last-requires-clause-compared c =
    let p = c.args.given.now in
    let items = c.args.self.now.items.items in
    let last = c.len-last.result in
    let item : ComparedPlan = record { plan = c.args.plan; flanks = c.in_ok-flanks.flanks; near = c.in_ok-near.near } in
    let e : last ≡ length items = search rules in
    subst (λ (xs : List ComparedPlan). AreComparedBy p (near_while_comparing p (plans_in xs) last 0) xs) (sym (c.as_mut_slice.ensures.value ∙ c.in_ok-push.ensures.items))
    (compared-push p items item last e c.requires.lawful c.in_ok-flanks.ensures c.in_ok-near.ensures c.requires.compared)
