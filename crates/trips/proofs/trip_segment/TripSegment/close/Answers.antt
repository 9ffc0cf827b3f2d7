use Rattle.std.proofs.Common.{rules, sym, subst}
use Rattle.trips.specs.Standing.{ClosesRun}
use Rattle.trips.proofs.WholeRuns.{trips-closed}
use Rattle.trips.proofs.trip_segment.TripSegment.close.Goals as goal

pub returns-clause-value : goal.returns-clause-value
returns-clause-value c = search rules

pub returns-clause-closes : goal.returns-clause-closes
returns-clause-closes c =
    subst (ClosesRun c.args.self c.args.capacity) (sym (returns-clause-value c)) (trips-closed c.args.self c.args.capacity c.requires)
