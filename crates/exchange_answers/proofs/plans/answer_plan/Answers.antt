use Rattle.srex.proofs.Children.{drivable}
use Rattle.exchange_answers.proofs.plans.answer_plan.Goals as goal

pub solution_cost-cost-requires-clause-plan : goal.solution_cost-cost-requires-clause-plan
solution_cost-cost-requires-clause-plan c = drivable c.args.given.now c.args.plan.now.routes c.validity.ensures c.requires
