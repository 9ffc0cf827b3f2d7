use Rattle.routing_model.proofs.FeasibleCost.{feasible_cost-same}
use Rattle.routing_model.proofs.laws.feasible_plan_costs_the_same.Goals as goal

pub returns : goal.returns
returns c = feasible_cost-same
