use Rattle.std.proofs.Common.{ap}
use Rattle.trips.specs.declared.middle.Middle.{Middle}
use Rattle.trips.proofs.Ends.{stands-reload}
use Rattle.trips.proofs.trip_segment.TripSegment.reload.Goals as goal

pub returns-clause-stands : goal.returns-clause-stands
returns-clause-stands c =
    stands-reload c.args.depot.now c.stop_piece.result c.none.result c.stop_piece-2.result c.stop_piece.ensures.stands c.none.ensures.nothing (ap (λ (middle : Middle). middle.excess) c.none.ensures.value) c.stop_piece-2.ensures.stands
