use Rattle.std.proofs.Common.{◌≡◌, map}
use Rattle.std.specs.List.{flat_map}
use Rattle.vrplib_model.specs.Entries.{counted}
use Rattle.vrplib_read.specs.inside.OfText.{weight_leg}
use Rattle.vrplib_read.proofs.legs.weight_legs.Given as goal

abbrev pub invariant-loop-before : goal.invariant-loop-before
invariant-loop-before l = l.legs.items ≡ flat_map (λ i. map (weight_leg l.format l.nodes l.weights i) (counted 1 l.nodes)) (counted 1 l.before)
