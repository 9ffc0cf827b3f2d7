use Rattle.trips.proofs.WholeDrives.{bounded-by_stops}
use Rattle.trips.proofs.laws.routes_are_bounded_by_stops.Goals as goal

pub returns : goal.returns
returns c = bounded-by_stops
