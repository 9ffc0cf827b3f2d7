use Rattle.std.proofs.Common.{◌+◌, ◌≤◌, length}
use Rattle.std.specs.Str.Lines.{lines}
use Rattle.vrplib_read.proofs.Driven.{Reads}
use Rattle.vrplib_read.proofs.reader.read_lines.Given as goal

abbrev pub invariant-loop-rest : goal.invariant-loop-rest
invariant-loop-rest l = Reads l.initial.reading.mode (lines l.text) (lines l.rest) l.number l.reading × (l.number + length l.rest ≤ length l.text + 1)

abbrev pub decreases-loop-rest : goal.decreases-loop-rest
decreases-loop-rest l = length l.rest
