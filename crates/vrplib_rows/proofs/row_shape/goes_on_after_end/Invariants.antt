use Rattle.std.proofs.Common.{◌≡◌, length}
use Rattle.vrplib_model.specs.Lines.{tokens}
use Rattle.vrplib_model.specs.RowFaults.{goes_on_after_end}
use Rattle.vrplib_rows.proofs.row_shape.goes_on_after_end.Given as goal

abbrev pub invariant-loop-token : goal.invariant-loop-token
invariant-loop-token l = goes_on_after_end (tokens l.rest) ≡ goes_on_after_end (tokens l.line)

abbrev pub decreases-loop-token : goal.decreases-loop-token
decreases-loop-token l = length (tokens l.rest)
