use Rattle.std.proofs.Common.{◌≡◌, false, take}
use Rattle.vrplib_model.specs.Checks.{has_repeated}
use Rattle.vrplib_rows.proofs.Repeats.{AreMarked}
use Rattle.vrplib_rows.proofs.marks.mark.Given as goal

abbrev pub invariant-loop-number : goal.invariant-loop-number
invariant-loop-number l = AreMarked l.marked (take l.number-index l.list) × (has_repeated (take l.number-index l.list) ≡ false)
