use Rattle.std.specs.Prelude.{◌≡◌}
use Rattle.route_rings.specs.inside.Directions.{used_directions}
use Rattle.route_rings.proofs.ordering.used_directions.Given as goal

abbrev pub invariant-loop-vehicle : goal.invariant-loop-vehicle
invariant-loop-vehicle l = l.directions.items ≡ used_directions l.given l.routes l.vehicle
