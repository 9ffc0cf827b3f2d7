use Rattle.std.proofs.Common.{◌∙◌, ap, nat_lt}
use Rattle.list_words.specs.Order.{put_in_order}
use Rattle.compared_plans.proofs.ComparedItems.{compared-set, plans-stay}
use Rattle.compared_plans.proofs.item.note.Goals as goal

pub returns-clause-plans : goal.returns-clause-plans
returns-clause-plans c = plans-stay c.args.items.now c.args.at c.index-items-at.result c.insert.new.self

pub returns-clause-compared : goal.returns-clause-compared
returns-clause-compared c = λ p near is.
    let old = is.each c.args.at c.index-items-at.result c.requires.at in
    compared-set p near c.args.items.now c.args.at c.index-items-at.result c.insert.new.self (put_in_order nat_lt c.args.number (near c.args.at)) c.requires.at
    (c.insert.ensures ∙ ap (put_in_order nat_lt c.args.number) old.numbered) is
