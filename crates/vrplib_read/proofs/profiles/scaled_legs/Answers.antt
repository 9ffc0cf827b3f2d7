use Rattle.vrplib_read.proofs.ProfileLaws.{long_leg}
use Rattle.vrplib_read.proofs.profiles.scaled_legs.Goals as goal

pub returns-in-None : goal.returns-in-None
returns-in-None c = long_leg c.args.factor c.args.base.now c.loop-leg.leg-index c.scaled_leg.result c.loop-leg-test.true c.scaled_leg.ensures c.in-None.is
