use Rattle.trips.proofs.RunJoins.{fit-can, joined-at}
use Rattle.trips.proofs.run_segment.RunSegment.join.Goals as goal

pub merge-requires : goal.merge-requires
merge-requires c =
    rw (c.leg-leg.ensures.distance, c.leg-leg.ensures.duration)
    (fit-can c.args.given.now c.args.vehicle_type.now c.args.self c.args.last c.args.next c.args.first c.requires.fit)

pub returns-clause-joins : goal.returns-clause-joins
returns-clause-joins c =
    joined-at c.args.given.now c.args.vehicle_type.now c.args.self c.args.last c.args.next c.args.first c.merge.result
    (rw (c.leg-leg.ensures.distance, c.leg-leg.ensures.duration) at c.merge.ensures.joins)
