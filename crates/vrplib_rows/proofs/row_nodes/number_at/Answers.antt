use Rattle.std.proofs.Common.{arith}
use Rattle.std.proofs.lemmas.Int.{to_z-of_z}
use Rattle.vrplib_rows.proofs.RowNumbers.{int_at-get_or, int_at_past}
use Rattle.vrplib_rows.proofs.row_nodes.number_at.Goals as goal

pub returns-then-k-row : goal.returns-then-k-row
returns-then-k-row c = grind (arith, to_z-of_z, int_at-get_or)

pub returns-else-k-row : goal.returns-else-k-row
returns-else-k-row c = grind (arith, int_at_past)
