use Rattle.segments.proofs.Bounds.{merged-bounded, released-bounded}
use Rattle.segments.proofs.laws.durations_are_at_least_those_of_their_parts.Goals as goal

pub returns-clause-merged : goal.returns-clause-merged
returns-clause-merged c = merged-bounded

pub returns-clause-released : goal.returns-clause-released
returns-clause-released c = released-bounded
