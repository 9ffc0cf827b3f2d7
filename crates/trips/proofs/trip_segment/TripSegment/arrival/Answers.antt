use Rattle.trips.proofs.Ends.{stands-end}
use Rattle.trips.proofs.trip_segment.TripSegment.arrival.Goals as goal

pub returns-clause-stands : goal.returns-clause-stands
returns-clause-stands c = stands-end c.args.window c.stop_piece.result c.stop_piece.ensures.stands
