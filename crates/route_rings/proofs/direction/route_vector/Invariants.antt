use Rattle.std.specs.Prelude.{◌≡◌, take}
use Rattle.genetic_model.specs.RouteOrder.{route_vector}
use Rattle.route_rings.specs.inside.Directions.{IsShort}
use Rattle.route_rings.proofs.direction.route_vector.Given as goal

abbrev pub invariant-loop-visit : goal.invariant-loop-visit
invariant-loop-visit l = (l.sum ≡ route_vector l.given (take l.visit-index l.visits)) × IsShort l.visit-index l.sum
