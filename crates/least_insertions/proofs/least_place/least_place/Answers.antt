use Rattle.std.proofs.Common.{◌∙◌, ◌<◌, ℕ, All, length, refl, subst, sym, take}
use Rattle.std.specs.Prelude.{flat_map}
use Rattle.genetic_model.specs.Insertion.{insertions_into}
use Rattle.least_insertions.specs.inside.Places.{IsBestOf}
use Rattle.least_insertions.proofs.InsertedLists.{flat-next}
use Rattle.least_insertions.proofs.UnusedVehicles.{vehicles-inside}
use Rattle.least_insertions.proofs.least_place.least_place.Goals as goal

pub loop-vehicle-init : goal.loop-vehicle-init
loop-vehicle-init c = record { is = refl; place = tt }

pub best_position-requires-clause-vehicle : goal.best_position-requires-clause-vehicle
best_position-requires-clause-vehicle c =
    let routes = c.args.routes.now in
    subst (All (λ v. v < length routes)) (sym (c.deref-vehicle-items.ensures.value ∙ c.in_ok-vehicles.ensures)) (vehicles-inside c.args.given.now routes) c.loop-vehicle.vehicle-index 0 c.loop-vehicle-test.true

pub loop-vehicle-preserved : goal.loop-vehicle-preserved
loop-vehicle-preserved c =
    let routes = c.args.routes.now in
    let vehicles = c.deref-vehicle-items.result.now in
    let k : ℕ = c.loop-vehicle.vehicle-index in
    subst (IsBestOf c.args.given.now c.args.weights routes c.args.client c.in_ok-best.best) (flat-next (insertions_into routes c.args.client) vehicles k c.loop-vehicle-test.true)
    (c.in_ok-best.ensures (flat_map (insertions_into routes c.args.client) (take k vehicles)) c.loop-vehicle.invariant)
