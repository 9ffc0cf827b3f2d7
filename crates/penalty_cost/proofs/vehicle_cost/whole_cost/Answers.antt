use Rattle.std.proofs.Common.{◌∙◌, sym}
use Rattle.penalty_cost.proofs.UsedCosts.{route_cost-is, route_cost-none, some-list}
use Rattle.penalty_cost.proofs.vehicle_cost.whole_cost.Goals as goal

pub returns-clause-value : goal.returns-clause-value
returns-clause-value c = λ visits is listed used.
    c.used_cost.ensures.value
    ∙ route_cost-is c.args.given.now c.args.vehicle_type.now visits c.args.weights c.totals_in.result (some-list visits (sym used ∙ c.if-not-used.false)) listed.tidy
    (c.totals_in.ensures.totals c.args.given.now c.args.vehicle_type.now visits c.validity.ensures c.requires.vehicle_type is)

pub returns-then-not-used-clause-value : goal.returns-then-not-used-clause-value
returns-then-not-used-clause-value c = λ visits is listed used. route_cost-none c.args.given.now c.args.vehicle_type.now visits c.args.weights (sym used ∙ c.if-not-used.true)
