use Rattle.std.proofs.Common.{◌≡◌, ◌∙◌, ap}
use Rattle.std.specs.Prelude.{not}
use Rattle.routing_model.specs.Cost.{route_cost}
use Rattle.routing_model.specs.Listed.{type_of_vehicle}
use Rattle.joined_views.specs.Views.{is_some_list}
use Rattle.penalty_cost.proofs.UsedCosts.{not-empty}
use Rattle.penalty_cost.proofs.kept_costs.kept_cost.Goals as goal

pub returns-clause-cost : goal.returns-clause-cost
returns-clause-cost c =
    let given = c.data-given.ensures in
    let typed : c.vehicle_type-vehicle_type.result.now ≡ type_of_vehicle c.args.route.now.problem c.args.route.now.vehicle =
    rw (← c.data-given.ensures, ← c.vehicle.ensures.number) c.vehicle_type-vehicle_type.ensures.vehicle_type in
    c.whole_cost.ensures.value c.args.route.now.visits (rw (given, typed) c.kept_whole.ensures) (rw given c.visits-visits.ensures.listed)
    (ap not c.is_empty.ensures ∙ not-empty c.visits-visits.result.now ∙ ap is_some_list c.visits-visits.ensures.visits)
    ∙ (λ i. route_cost (given i) c.args.weights (typed i) c.args.route.now.visits)
