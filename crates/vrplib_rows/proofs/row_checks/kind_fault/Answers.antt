use Rattle.vrplib_model.specs.declared.section.Section.TheVariants.{Group as group_section}
use Rattle.vrplib_rows.proofs.RowTests.{kind_at_group, owned_along}
use Rattle.vrplib_rows.proofs.row_checks.kind_fault.Goals as goal

pub returns-in-Group-clause-answer : goal.returns-in-Group-clause-answer
returns-in-Group-clause-answer c = λ nodes rows follows o.
    kind_at_group c.args.next.section c.args.row.now rows c.is_wrong_group.result c.broken_if-in-Group.result c.in-Group.is
    (c.is_wrong_group.ensures.answer nodes rows follows.number (owned_along _ group_section nodes rows c.args.owners.now c.in-Group.is o)) c.broken_if-in-Group.ensures
