use Rattle.penalty_cost.proofs.NewSides.{new-side}
use Rattle.penalty_cost.proofs.proposed_side.ProposedSide.new.Goals as goal

pub returns-clause-side : goal.returns-clause-side
returns-clause-side c =
    new-side c.args.route.now c.data-given.result.now c.data-given.ensures c.vehicle-vehicle.result c.vehicle-vehicle.ensures.number c.vehicle-vehicle.ensures.in_range
    c.vehicle_type.result.now c.vehicle_type.ensures.vehicle_type c.vehicle_type.ensures.valid c.kept_whole.result c.kept_whole.ensures c.visits.result.now c.visits.ensures.visits c.visits.ensures.listed
    c.new_in.result.items c.new_in.ensures
