use Rattle.std.proofs.Common.{arith}
use mir.Syntax.{w64}
use mir.Val.{SFits}
use Rattle.std.proofs.lemmas.Int.{to_z-of_z}
use Rattle.vrplib_rows.proofs.LongRowLaws.{tail_more}
use Rattle.vrplib_rows.proofs.long_row.LongRow.take.Goals as goal

pub returns-then-first-k-clause-tail : goal.returns-then-first-k-clause-tail
returns-then-first-k-clause-tail c = λ row at tail.
    let fits : SFits w64 c.args.number = c.ranges.number in
    tail_more c.args.first c.args.nodes row c.args.number c.args.self.now.tail c.with-self.result (omega arith) tail (simp to_z-of_z at c.with-self.ensures.count) (simp to_z-of_z at c.with-self.ensures.outside)
