use Rattle.std.proofs.Common.{◌≡◌, ◌++◌, map}
use Rattle.vrplib_model.specs.Entries.{counted}
use Rattle.vrplib_read.specs.inside.OfText.{weight_leg}
use Rattle.vrplib_read.proofs.legs.push_weights.Given as goal

abbrev pub invariant-loop-before : goal.invariant-loop-before
invariant-loop-before l = l.legs.items ≡ l.initial.legs.items ++ map (weight_leg l.format l.nodes l.weights l.from) (counted 1 l.before)
