use Rattle.std.proofs.Common.{arith}
use Rattle.vrplib_rows.proofs.CutRows.{length-rows_cut}
use Rattle.vrplib_rows.proofs.RowStages.{row_of_kept}
use Rattle.vrplib_rows.specs.inside.RowTables.{rows_cut}
use Rattle.vrplib_rows.proofs.rows.Rows.row.Goals as goal

pub cut-requires-clause-within : goal.cut-requires-clause-within
cut-requires-clause-within c = grind (arith, length-rows_cut)

pub returns-clause-bounds : goal.returns-clause-bounds
returns-clause-bounds c =
    row_of_kept c.args.self.now c.self.inside.section c.self.inside.nodes c.args.k (rows_cut 0 c.self.inside.ends.items c.self.inside.numbers.items) c.cut.result.now c.self.view_is c.self.invariant.each
    (rw (c.deref.ensures.value, c.deref-2.ensures.value) at c.cut.ensures)
