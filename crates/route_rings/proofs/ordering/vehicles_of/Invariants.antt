use Rattle.std.specs.Prelude.{◌≡◌, map, take}
use Rattle.route_rings.specs.declared.direction.Direction.{Direction}
use Rattle.route_rings.proofs.ordering.vehicles_of.Given as goal

abbrev pub invariant-loop-direction : goal.invariant-loop-direction
invariant-loop-direction l = l.vehicles.items ≡ map (λ (d : Direction). d.vehicle) (take l.direction-index l.directions)
