use Rattle.std.proofs.Common.{◌≡◌, ◌++◌, ◌≤◌, drop}
use Rattle.routing_model.specs.Load.{trips}
use Rattle.trips.specs.Spans.{spans_from}
use Rattle.trips.proofs.SpanRest.{rest_spans}
use Rattle.trips.proofs.trip.trips_of.Given as goal

-- the trips so far, and those of the visits that are left
abbrev pub invariant-loop-i : goal.invariant-loop-i
invariant-loop-i l = (l.trips.items ++ rest_spans l.first l.i (drop l.i l.visits) ≡ spans_from 0 (trips l.visits)) × (l.first ≤ l.i)
