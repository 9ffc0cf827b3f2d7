use Rattle.std.proofs.Common.{arith}
use Rattle.std.proofs.lemmas.Grind.{common_steps}
use Rattle.vrplib_read.specs.inside.OfText.{group_places}
use Rattle.vrplib_read.proofs.GroupLaws.{group_row}
use Rattle.vrplib_read.proofs.RowLaws.{map_taken}
use Rattle.vrplib_read.proofs.groups.groups_in.Goals as goal

pub group_places-requires-clause-some : goal.group_places-requires-clause-some
group_places-requires-clause-some c =
    let rows = c.args.rows.now in
    omega (arith, (group_row rows.section rows.nodes c.row.result.now c.requires c.count-count.ensures.limit c.row.ensures.bounds).0)

pub group_places-requires-clause-bounds : goal.group_places-requires-clause-bounds
group_places-requires-clause-bounds c =
    let rows = c.args.rows.now in
    (group_row rows.section rows.nodes c.row.result.now c.requires c.count-count.ensures.limit c.row.ensures.bounds).1

pub loop-k-preserved : goal.loop-k-preserved
loop-k-preserved c = grind (arith, common_steps, map_taken group_places c.args.rows.now.rows c.loop-k.k c.row.result.now c.row.ensures.row)
