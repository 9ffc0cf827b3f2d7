use Rattle.trips.proofs.RunVisits.{reload-held}
use Rattle.trips.proofs.run_segment.RunSegment.reload.Goals as goal

pub returns : goal.returns
returns c =
    reload-held c.args.given.now c.args.depot c.depot.result.now c.reload.result c.stop.result c.validity.ensures c.requires c.depot.ensures.depot c.reload.ensures.sound c.reload.ensures.stands
    c.stop.ensures.trips c.stop.ensures.distance c.stop.ensures.prizes
