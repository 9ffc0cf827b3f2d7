use Rattle.trips.proofs.Ends.{stands-start}
use Rattle.trips.proofs.trip_segment.TripSegment.departure.Goals as goal

pub returns-clause-stands : goal.returns-clause-stands
returns-clause-stands c = stands-start c.args.depot.now c.args.window c.stop_piece.result c.stop_piece.ensures.stands
