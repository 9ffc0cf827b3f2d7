use Rattle.std.proofs.Common.{◌+◌, arith}
use Rattle.std.proofs.lemmas.Grind.{common_steps}
use Rattle.vrplib_read.specs.inside.OfText.{weight_leg}
use Rattle.vrplib_read.proofs.RowLaws.{map_counted}
use Rattle.vrplib_read.proofs.legs.push_weights.Goals as goal

pub loop-before-preserved : goal.loop-before-preserved
loop-before-preserved c =
    grind (arith, common_steps, map_counted (weight_leg c.args.format c.args.nodes c.args.weights.now c.args.from) 1 c.loop-before.before (c.loop-before.before + 1) (omega arith))
