use Rattle.vrplib_rows.proofs.RowTests.{group_test}
use Rattle.vrplib_rows.proofs.row_checks.is_wrong_group.Goals as goal

pub returns-else-number_at-number-clause-answer : goal.returns-else-number_at-number-clause-answer
returns-else-number_at-number-clause-answer c = λ nodes rows e o.
    group_test c.args.row.now rows c.args.named.now c.args.number c.number_at.result c.comes_again.result e c.number_at.ensures c.if-number_at-number.false c.requires.named (c.comes_again.ensures.answer nodes rows o)
