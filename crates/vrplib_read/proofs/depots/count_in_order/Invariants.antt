use Rattle.std.proofs.Common.{◌≡◌, ◌+◌, ◌≤◌, drop, length}
use Rattle.std.specs.Prelude.{bytes_eq}
use Rattle.vrplib_model.specs.Rows.{nodes_of}
use Rattle.vrplib_model.specs.Entries.{counted}
use Rattle.vrplib_read.specs.inside.OfText.{are_first}
use Rattle.vrplib_read.proofs.depots.count_in_order.Given as goal

abbrev pub invariant-loop-number : goal.invariant-loop-number
invariant-loop-number l =
    let rest = nodes_of (drop l.number-index l.numbers) in
    record {
      order : bytes_eq rest (counted (l.count + 1) (length rest)) ≡ are_first (nodes_of l.numbers);
      counted : l.count + length rest ≡ length (nodes_of l.numbers);
      small : l.count ≤ l.number-index;
    }
