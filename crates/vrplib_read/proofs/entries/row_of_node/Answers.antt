use Rattle.std.proofs.Common.{◌∙◌, sym, ap}
use Rattle.std.specs.Option.{option_and_then}
use Rattle.std.specs.List.{slice_get}
use Rattle.vrplib_read.proofs.RowLaws.{first_row}
use Rattle.vrplib_read.proofs.entries.row_of_node.Goals as goal

pub returns-in-Some-clause-row : goal.returns-in-Some-clause-row
returns-in-Some-clause-row c =
    let rows = c.args.rows.now in
    sym (first_row rows.section c.args.node rows.rows c.requires.kind ∙ ap (option_and_then (slice_get rows.rows)) (sym c.row_of.ensures.first ∙ c.in-Some.is) ∙ c.row.ensures.row)

pub returns-in-None-clause-row : goal.returns-in-None-clause-row
returns-in-None-clause-row c =
    let rows = c.args.rows.now in
    sym (first_row rows.section c.args.node rows.rows c.requires.kind ∙ ap (option_and_then (slice_get rows.rows)) (sym c.row_of.ensures.first ∙ c.in-None.is))
