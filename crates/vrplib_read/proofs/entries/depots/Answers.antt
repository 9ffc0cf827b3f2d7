use Rattle.std.proofs.Common.{◌+◌, arith}
use Rattle.std.proofs.lemmas.Grind.{common_steps}
use Rattle.vrplib_model.specs.Meaning.{depot}
use Rattle.vrplib_read.proofs.RowLaws.{map_counted}
use Rattle.vrplib_read.proofs.entries.depots.Goals as goal

pub loop-before-preserved : goal.loop-before-preserved
loop-before-preserved c = λ all st.
    let mode = c.args.reading.now.mode in
    grind (
      arith,
      common_steps,
      c.loop-before.invariant all st,
      c.depot.ensures all st,
      map_counted (depot mode all) 1 c.loop-before.before (c.loop-before.before + 1) (omega arith),
    )
