use Rattle.std.proofs.Common.{◌∙◌, ap₂, get_or, List, subst, sym}
use Rattle.routing_model.specs.Routes.{Routes}
use Rattle.genetic_model.specs.BrokenPairs.{broken_pairs}
use Rattle.plan_differences.specs.declared.flanks.Flanks.{Flanks}
use Rattle.plan_differences.specs.Beside.{AreFlanks}
use Rattle.compared_plans.proofs.ComparedItems.{item-plan}
use Rattle.compared_plans.proofs.comparing.broken_at.Goals as goal

pub returns : goal.returns
returns c =
    let p = c.args.given.now in
    let items = c.args.items.now in
    let x = c.index-items-one.result in
    let y = c.index-items-other.result in
    let here = get_or items c.args.one x in
    let there = get_or items c.args.other y in
    c.broken_between.ensures.pairs here.plan.routes there.plan.routes (subst (λ (f : List Flanks). AreFlanks p here.plan.routes f) (sym c.as_slice-flanks.ensures.value) (c.requires.beside c.args.one x c.requires.one))
    (subst (λ (f : List Flanks). AreFlanks p there.plan.routes f) (sym c.as_slice.ensures.value) (c.requires.beside c.args.other y c.requires.other))
    ∙ ap₂ (λ (a b : Routes). broken_pairs p a b) (sym (item-plan items c.args.one x c.requires.one)) (sym (item-plan items c.args.other y c.requires.other))
