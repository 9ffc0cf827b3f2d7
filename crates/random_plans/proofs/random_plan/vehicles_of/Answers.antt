use Rattle.random_model.proofs.Dealing.{vehicles_some}
use Rattle.random_plans.proofs.random_plan.vehicles_of.Goals as goal

pub returns-clause-some : goal.returns-clause-some
returns-clause-some c = rw c.vehicles.ensures.count (vehicles_some c.args.given.now c.validity.ensures)
