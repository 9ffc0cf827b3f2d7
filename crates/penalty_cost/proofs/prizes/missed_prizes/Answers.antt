use Rattle.std.proofs.Common.{arith}
use Rattle.penalty_cost.proofs.MissedPrizes.{prizes-split}
use Rattle.penalty_cost.proofs.prizes.missed_prizes.Goals as goal

pub overflow_sub-result : goal.overflow_sub-result
overflow_sub-result c = let split = prizes-split c.args.given.now c.args.routes.now c.requires in omega arith

pub returns-clause-value : goal.returns-clause-value
returns-clause-value c = let split = prizes-split c.args.given.now c.args.routes.now c.requires in omega arith
