use Rattle.std.proofs.Common.{arith}
use Rattle.vrplib_rows.proofs.RowStages.{count_more}
use Rattle.vrplib_rows.proofs.rows.Rows.without_vehicles.Goals as goal

pub loop-k-preserved : goal.loop-k-preserved
loop-k-preserved c =
    let more = count_more c.args.self.now.rows c.loop-k.k c.row.result.now c.row.ensures.row in
    omega (arith, more, c.number_at.ensures, c.saturating_sub-left.ensures, c.loop-k.invariant)
