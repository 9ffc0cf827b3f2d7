use Rattle.std.proofs.Common.{drop}
use Rattle.vrplib_rows.proofs.Repeats.{AreMarkedIn}
use Rattle.vrplib_rows.proofs.marks.unmark.Given as goal

abbrev pub invariant-loop-number : goal.invariant-loop-number
invariant-loop-number l = AreMarkedIn l.marked (drop l.number-index l.list)
