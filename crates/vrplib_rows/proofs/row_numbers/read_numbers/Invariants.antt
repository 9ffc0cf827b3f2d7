use Rattle.std.proofs.Common.{List, length, ℤ}
use Rattle.vrplib_model.specs.Lines.{tokens}
use Rattle.vrplib_rows.specs.inside.NextRows.{Follows}
use Rattle.vrplib_model.specs.Rows.{fields}
use Rattle.vrplib_rows.proofs.TokenWalks.{Walks}
use Rattle.vrplib_rows.proofs.row_numbers.read_numbers.Given as goal

abbrev pub invariant-loop-token : goal.invariant-loop-token
invariant-loop-token l =
    (rows : List (List ℤ)) → Follows l.next rows → Walks l.mode (fields l.next.section rows (length (tokens l.line))) (tokens l.line) (tokens l.rest) l.row.items

abbrev pub decreases-loop-token : goal.decreases-loop-token
decreases-loop-token l = length (tokens l.rest)
