use Rattle.std.specs.Prelude.{flat_map, take}
use Rattle.genetic_model.specs.Insertion.{insertions_into}
use Rattle.least_insertions.specs.inside.Places.{IsBestOf}
use Rattle.least_insertions.proofs.least_place.least_place.Given as goal

abbrev pub invariant-loop-vehicle : goal.invariant-loop-vehicle
invariant-loop-vehicle l = IsBestOf l.given l.weights l.routes l.client l.best (flat_map (insertions_into l.routes l.client) (take l.vehicle-index l.vehicle-items))
