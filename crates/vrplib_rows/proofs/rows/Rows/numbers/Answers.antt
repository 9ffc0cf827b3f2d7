use Rattle.std.proofs.Common.{arith}
use Rattle.vrplib_rows.proofs.CutRows.{numbers_of_rows}
use Rattle.vrplib_rows.proofs.rows.Rows.numbers.Goals as goal

pub returns-clause-all : goal.returns-clause-all
returns-clause-all c = grind (arith, numbers_of_rows)
