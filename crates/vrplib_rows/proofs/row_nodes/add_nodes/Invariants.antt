use Rattle.std.proofs.Common.{◌≡◌, ◌++◌, take}
use Rattle.vrplib_model.specs.Rows.{nodes_of}
use Rattle.vrplib_rows.proofs.row_nodes.add_nodes.Given as goal

abbrev pub invariant-loop-number : goal.invariant-loop-number
invariant-loop-number l = l.named.items ≡ l.initial.named.items ++ nodes_of (take l.number-index l.numbers)
