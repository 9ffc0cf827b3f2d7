use Rattle.std.proofs.Common.{arith, ◌∙◌, ap, List, map}
use Rattle.std.proofs.lemmas.Grind.{common_steps}
use Rattle.trips.specs.declared.trip.Trip.{Trip}
use Rattle.trips.specs.Spans.{visits_of}
use Rattle.trips.proofs.SpanRest.{spans-clients}
use Rattle.trips.proofs.trip.trips_of.Goals as goal

pub returns-clause-places : goal.returns-clause-places
returns-clause-places c = grind (arith, common_steps)

pub returns-clause-clients : goal.returns-clause-clients
returns-clause-clients c =
    ap (λ (spans : List Trip). map (visits_of c.args.visits.now) spans) (returns-clause-places c) ∙ spans-clients c.args.visits.now
