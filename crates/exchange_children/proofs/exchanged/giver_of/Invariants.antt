use Rattle.std.proofs.Common.{◌≡◌, drop}
use Rattle.exchange_children.specs.inside.Givers.{giver_in}
use Rattle.exchange_children.proofs.exchanged.giver_of.Given as goal

abbrev pub invariant-loop-at : goal.invariant-loop-at
invariant-loop-at l = giver_in l.into l.from l.vehicle ≡ giver_in (drop l.at l.into) (drop l.at l.from) l.vehicle
