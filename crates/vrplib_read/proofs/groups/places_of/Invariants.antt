use Rattle.std.proofs.Common.{◌≡◌, map, take}
use Rattle.std.specs.Prelude.{nat_abs}
use Rattle.vrplib_model.specs.Entries.{place_of}
use Rattle.vrplib_read.proofs.groups.places_of.Given as goal

abbrev pub invariant-loop-node : goal.invariant-loop-node
invariant-loop-node l = l.places.items ≡ map (λ z. place_of (nat_abs z)) (take l.node-index l.nodes)
