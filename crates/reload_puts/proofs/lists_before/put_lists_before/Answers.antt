use Rattle.std.proofs.Common.{sym, subst, arith}
use Rattle.new_lists.specs.declared.new_list.NewList.{NewList}
use Rattle.new_lists.specs.declared.new_list.NewLists.TheVariants.{One}
use Rattle.reload_puts.specs.declared.beside.Beside.TheVariants.{Before}
use Rattle.reload_puts.specs.PutLists.{ArePut}
use Rattle.reload_puts.proofs.PutListsBefore.{put-in-earlier, put-in-later, put-in-other, put-in-place}
use Rattle.reload_puts.proofs.lists_before.put_lists_before.Goals as goal

pub returns-then-seats : goal.returns-then-seats
returns-then-seats c =
    subst (ArePut c.args.search.now Before c.args.seats c.args.depot) (sym c.across.ensures)
    (put-in-other c.args.search.now c.soundness.ensures c.args.seats c.requires.seats c.args.depot c.requires.depot c.gap_left-gap.result c.gap_left-gap.ensures c.if-seats.true)

pub returns-then-seats-2 : goal.returns-then-seats-2
returns-then-seats-2 c =
    subst (λ (list : NewList). ArePut c.args.search.now Before c.args.seats c.args.depot (One list)) (sym c.later.ensures)
    (put-in-later c.args.search.now c.soundness.ensures c.args.seats c.requires.seats c.args.depot c.requires.depot c.gap_left-gap.result c.gap_left-gap.ensures c.if-seats.false c.if-seats-2.true)

pub returns-then-seats-3 : goal.returns-then-seats-3
returns-then-seats-3 c =
    subst (λ (list : NewList). ArePut c.args.search.now Before c.args.seats c.args.depot (One list)) (sym c.in_place.ensures)
    (put-in-place c.args.search.now c.soundness.ensures c.args.seats c.requires.seats c.args.depot c.requires.depot c.gap_left-gap.result c.gap_left-gap.ensures c.if-seats.false c.if-seats-3.true)

pub returns-else-seats-3 : goal.returns-else-seats-3
returns-else-seats-3 c =
    let behind = c.if-seats-2.false in
    let other = c.if-seats-3.false in
    subst (λ (list : NewList). ArePut c.args.search.now Before c.args.seats c.args.depot (One list)) (sym c.earlier.ensures)
    (put-in-earlier c.args.search.now c.soundness.ensures c.args.seats c.requires.seats c.args.depot c.requires.depot c.gap_left-gap.result c.gap_left-gap.ensures c.if-seats.false (omega (arith, behind, other)))
