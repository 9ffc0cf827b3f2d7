use Rattle.std.proofs.Common.{◌-◌, drop, length}
use Rattle.joined_views.specs.inside.Recounts.{AreLater}
use Rattle.joined_views.proofs.later_trips.later_excess.Given as goal

abbrev pub invariant-loop-k : goal.invariant-loop-k
invariant-loop-k l = AreLater l.given l.capacity l.k (drop (length l.visits - l.k) l.visits) l.later
