use Rattle.std.proofs.Common.{◌<◌, length, arith}
use Rattle.joined_views.proofs.LaterLoads.{before-it}
use Rattle.joined_views.proofs.later_trips.later_excess.Goals as goal

pub loop-k-preserved : goal.loop-k-preserved
loop-k-preserved c =
    let here : c.loop-k.k < length c.args.visits.now = omega arith in
    before-it c.args.given.now c.args.capacity c.loop-k.k c.args.visits.now _ c.before-later.result here (c.before-later.ensures c.loop-k.k _ c.loop-k.invariant)
