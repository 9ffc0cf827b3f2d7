use Rattle.std.proofs.Common.{◌∙◌, sym}
use Rattle.sorted_numbers.proofs.SortedLists.{put-same}
use Rattle.compared_plans.proofs.ComparedItems.{compared-set, plans-stay}
use Rattle.compared_plans.proofs.item.forget.Goals as goal

pub returns-clause-plans : goal.returns-clause-plans
returns-clause-plans c = plans-stay c.args.items.now c.args.at c.index-items-at.result c.remove.new.self

pub returns-clause-compared : goal.returns-clause-compared
returns-clause-compared c = λ p near rest is more.
    let old = is.each c.args.at c.index-items-at.result c.requires.at in
    compared-set p near c.args.items.now c.args.at c.index-items-at.result c.remove.new.self rest c.requires.at
    (put-same c.args.number c.remove.new.self rest (sym c.remove.ensures ∙ (old.numbered ∙ more))) is
