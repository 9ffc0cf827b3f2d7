use Rattle.std.proofs.Common.{sym, subst, arith}
use Rattle.new_lists.specs.declared.new_list.NewList.{NewList}
use Rattle.new_lists.specs.declared.new_list.NewLists.TheVariants.{One}
use Rattle.reload_puts.specs.declared.beside.Beside.TheVariants.{After}
use Rattle.reload_puts.specs.PutLists.{ArePut}
use Rattle.reload_puts.proofs.PutListsAfter.{after-in-earlier, after-in-later, after-in-other, after-in-place}
use Rattle.reload_puts.proofs.lists_after.put_lists_after.Goals as goal

pub returns-then-seats : goal.returns-then-seats
returns-then-seats c =
    subst (ArePut c.args.search.now After c.args.seats c.args.depot) (sym c.across.ensures)
    (after-in-other c.args.search.now c.soundness.ensures c.args.seats c.requires.seats c.args.depot c.requires.depot c.gap_left-gap.result c.gap_left-gap.ensures c.ending_of-ending.result c.ending_of-ending.ensures c.if-seats.true)

pub returns-then-seats-2 : goal.returns-then-seats-2
returns-then-seats-2 c =
    subst (λ (list : NewList). ArePut c.args.search.now After c.args.seats c.args.depot (One list)) (sym c.later.ensures)
    (after-in-later c.args.search.now c.soundness.ensures c.args.seats c.requires.seats c.args.depot c.requires.depot c.gap_left-gap.result c.gap_left-gap.ensures c.if-seats.false c.ending_of-ending.result c.ending_of-ending.ensures c.if-seats-2.true)

pub returns-then-ending-seats : goal.returns-then-ending-seats
returns-then-ending-seats c =
    let behind = c.if-seats-2.false in
    subst (λ (list : NewList). ArePut c.args.search.now After c.args.seats c.args.depot (One list)) (sym c.earlier.ensures)
    (after-in-earlier c.args.search.now c.soundness.ensures c.args.seats c.requires.seats c.args.depot c.requires.depot c.gap_left-gap.result c.gap_left-gap.ensures c.if-seats.false c.ending_of-ending.result c.ending_of-ending.ensures
    (omega (arith, behind)) c.if-ending-seats.true)

pub returns-else-ending-seats : goal.returns-else-ending-seats
returns-else-ending-seats c =
    let behind = c.if-seats-2.false in
    let near = c.if-ending-seats.false in
    subst (λ (list : NewList). ArePut c.args.search.now After c.args.seats c.args.depot (One list)) (sym c.in_place.ensures)
    (after-in-place c.args.search.now c.soundness.ensures c.args.seats c.requires.seats c.args.depot c.requires.depot c.gap_left-gap.result c.gap_left-gap.ensures c.if-seats.false c.ending_of-ending.result c.ending_of-ending.ensures
    (omega (arith, behind)) (omega (arith, near)) c.ending_of-rest.result c.ending_of-rest.ensures)
