use Rattle.population.proofs.AddedPlans.{drivable}
use Rattle.population.proofs.plans.Population.add.Goals as goal

pub plan_cost-cost-requires : goal.plan_cost-cost-requires
plan_cost-cost-requires c = drivable c.args.given.now c.args.solution.routes c.validity.ensures c.requires.lawful
