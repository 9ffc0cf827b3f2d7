use Rattle.problem_data.specs.Valid.{IsValid, IsValidType}
use Rattle.routing_model.specs.Listed.{type_of_vehicle}
use Rattle.star_places.specs.Growths.{place_of}
use Rattle.star_places.proofs.SmallGrowths.{small-detour}
use Rattle.star_places.proofs.insertion.growths_are_small.Goals as goal

pub returns : goal.returns
returns c =
    let route = c.args.route.now in
    let valid : IsValid route.problem = rw (← c.data-given.ensures) c.validity.ensures in
    let allowed : IsValidType route.problem (type_of_vehicle route.problem route.vehicle) = rw (← c.data-given.ensures, ← c.vehicle.ensures.number, ← c.vehicle_type.ensures.vehicle_type) c.vehicle_type.ensures.valid in
    λ from client to. small-detour route.problem (type_of_vehicle route.problem route.vehicle) valid allowed (place_of route from) client (place_of route to)
