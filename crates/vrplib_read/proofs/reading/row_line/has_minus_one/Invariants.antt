use Rattle.std.proofs.Common.{◌≡◌, length}
use Rattle.std.specs.List.{list_any}
use Rattle.vrplib_model.specs.Lines.{tokens}
use Rattle.vrplib_model.specs.Numbers.{is_minus_one_token}
use Rattle.vrplib_read.proofs.reading.row_line.has_minus_one.Given as goal

abbrev pub invariant-loop-token : goal.invariant-loop-token
invariant-loop-token l = list_any is_minus_one_token (tokens l.rest) ≡ list_any is_minus_one_token (tokens l.line)

abbrev pub decreases-loop-token : goal.decreases-loop-token
decreases-loop-token l = length (tokens l.rest)
