use Rattle.trips.proofs.Bounds.{closed-bounded, trips-bounded}
use Rattle.trips.proofs.laws.trips_take_at_least_what_their_parts_take.Goals as goal

pub returns-clause-merged : goal.returns-clause-merged
returns-clause-merged c = trips-bounded

pub returns-clause-closed : goal.returns-clause-closed
returns-clause-closed c = closed-bounded
