use Rattle.routing_model.proofs.FeasibleBest.{best_after-feasible}
use Rattle.routing_model.proofs.laws.best_plan_is_feasible.Goals as goal

pub returns : goal.returns
returns c = best_after-feasible
