use Rattle.route_cache.proofs.Alongs.{along-there}
use Rattle.route_cache.proofs.forward.leg_along.Goals as goal

pub leg-requires-clause-from : goal.leg-requires-clause-from
leg-requires-clause-from c =
    rw c.place_along-last.ensures (along-there c.args.given.now c.args.vehicle_type.now c.args.visits.now c.args.from c.requires.vehicle_type c.requires.listed)

pub leg-requires-clause-to : goal.leg-requires-clause-to
leg-requires-clause-to c =
    rw c.place_along-next.ensures (along-there c.args.given.now c.args.vehicle_type.now c.args.visits.now c.args.to c.requires.vehicle_type c.requires.listed)
