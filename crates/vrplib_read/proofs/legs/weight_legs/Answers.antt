use Rattle.std.proofs.Common.{◌+◌, map, arith}
use Rattle.std.proofs.lemmas.Grind.{common_steps}
use Rattle.vrplib_model.specs.Entries.{counted}
use Rattle.vrplib_read.specs.inside.OfText.{weight_leg}
use Rattle.vrplib_read.proofs.RowLaws.{flat_counted}
use Rattle.vrplib_read.proofs.legs.weight_legs.Goals as goal

pub loop-before-preserved : goal.loop-before-preserved
loop-before-preserved c =
    grind (arith, common_steps, flat_counted (λ i. map (weight_leg c.args.format c.args.nodes c.args.weights.now i) (counted 1 c.args.nodes)) 1 c.loop-before.before (c.loop-before.before + 1) (omega arith))
