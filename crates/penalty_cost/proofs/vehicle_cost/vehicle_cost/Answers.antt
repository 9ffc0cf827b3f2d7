use Rattle.std.proofs.Common.{arith, ◌∙◌, ap}
use Rattle.std.proofs.lemmas.Bool.Decides.{nat_tests}
use Rattle.routing_model.specs.Cost.{route_cost}
use Rattle.penalty_cost.proofs.UsedCosts.{route_cost-is}
use Rattle.penalty_cost.proofs.vehicle_cost.vehicle_cost.Goals as goal

pub returns-clause-value : goal.returns-clause-value
returns-clause-value c =
    c.used_cost.ensures.value
    ∙ route_cost-is c.args.given.now c.vehicle_type-vehicle_type.result.now c.args.visits.now c.args.weights c.totals_of-totals.result (grind (arith, nat_tests)) c.requires.listed.tidy c.totals_of-totals.ensures.totals
    ∙ ap (λ t. route_cost c.args.given.now c.args.weights t c.args.visits.now) c.vehicle_type-vehicle_type.ensures.vehicle_type
