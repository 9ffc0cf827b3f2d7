use Rattle.std.proofs.Common.{arith, rules, pos, refl, get_or}
use mir.Syntax.{w64}
use mir.Val.{SFits}
use Rattle.std.proofs.lemmas.Int.{to_z-of_z}
use Rattle.vrplib_rows.proofs.RowNumbers.{nodes_more}
use Rattle.vrplib_rows.proofs.row_nodes.add_nodes.Goals as goal

pub loop-number-preserved : goal.loop-number-preserved
loop-number-preserved c =
    let fits : SFits w64 (get_or c.args.numbers.now c.loop-number.number-index (pos 0)) = search rules in
    nodes_more c.args.named.now.items c.loop-number.named.items c.add_node.new.named.items c.args.numbers.now c.loop-number.number-index (get_or c.args.numbers.now c.loop-number.number-index (pos 0))
    (omega arith) refl c.loop-number.invariant (simp to_z-of_z at c.in_ok-add_node.ensures)
