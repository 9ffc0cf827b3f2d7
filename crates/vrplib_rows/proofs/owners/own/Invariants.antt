use Rattle.std.proofs.Common.{take}
use Rattle.vrplib_rows.proofs.RowOwners.{AreOwnedBy}
use Rattle.vrplib_rows.proofs.owners.own.Given as goal

abbrev pub invariant-loop-node : goal.invariant-loop-node
invariant-loop-node l = AreOwnedBy l.number l.initial.owners l.owners (take l.node-index l.named)
