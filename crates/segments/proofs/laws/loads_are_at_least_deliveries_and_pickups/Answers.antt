use Rattle.segments.proofs.Bounds.{loads-bounded}
use Rattle.segments.proofs.laws.loads_are_at_least_deliveries_and_pickups.Goals as goal

pub returns : goal.returns
returns c = loads-bounded
