use Rattle.std.proofs.Common.{arith}
use Rattle.vrplib_rows.proofs.CutRows.{length-rows_cut}
use Rattle.vrplib_rows.proofs.rows.Rows.count.Goals as goal

pub returns-clause-number : goal.returns-clause-number
returns-clause-number c = grind (arith, length-rows_cut)
