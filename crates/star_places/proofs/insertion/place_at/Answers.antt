use Rattle.problem_data.specs.Valid.{IsValidType}
use Rattle.routing_model.specs.Listed.{type_of_vehicle}
use Rattle.route_cache.proofs.Alongs.{along-there}
use Rattle.route_cache.proofs.MarkFacts.{no_mark}
use Rattle.star_places.proofs.insertion.place_at.Goals as goal

pub returns-clause-place : goal.returns-clause-place
returns-clause-place c = (c.marks.ensures.each c.args.position no_mark c.requires).place

pub returns-clause-there : goal.returns-clause-there
returns-clause-there c =
    let route = c.args.route.now in
    let allowed : IsValidType route.problem (type_of_vehicle route.problem route.vehicle) = rw (← c.data.ensures, ← c.vehicle.ensures.number, ← c.vehicle_type.ensures.vehicle_type) c.vehicle_type.ensures.valid in
    rw (c.marks.ensures.each c.args.position no_mark c.requires).place (along-there route.problem (type_of_vehicle route.problem route.vehicle) route.visits c.args.position allowed c.visits.ensures.listed)
