use Rattle.penalty_cost.proofs.WholeTotals.{are-shared}
use Rattle.penalty_cost.proofs.totals.totals_of.Goals as goal

pub returns-clause-totals : goal.returns-clause-totals
returns-clause-totals c = c.totals_in.ensures.totals c.args.given.now c.args.vehicle_type.now c.args.visits.now c.validity.ensures c.requires.vehicle_type c.whole_of.ensures.whole

pub returns-clause-shared : goal.returns-clause-shared
returns-clause-shared c =
    are-shared c.args.given.now c.args.vehicle_type.now c.args.visits.now c.validity.ensures c.requires.vehicle_type c.requires.listed c.totals_in.result
    (c.totals_in.ensures.totals c.args.given.now c.args.vehicle_type.now c.args.visits.now c.validity.ensures c.requires.vehicle_type c.whole_of.ensures.whole)
