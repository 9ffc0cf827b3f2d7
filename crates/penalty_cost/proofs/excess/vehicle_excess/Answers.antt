use Rattle.std.proofs.Common.{arith, refl}
use Rattle.std.proofs.lemmas.Bool.Decides.{nat_tests}
use Rattle.penalty_cost.proofs.PlanExcess.{excess-at, excess-is, excess-within}
use Rattle.penalty_cost.proofs.excess.vehicle_excess.Goals as goal

pub returns-clause-excess : goal.returns-clause-excess
returns-clause-excess c =
    excess-at c.args.given.now c.vehicle_type-vehicle_type.result.now _ c.args.visits.now _ c.vehicle_type-vehicle_type.ensures.vehicle_type
    (excess-is c.args.given.now c.vehicle_type-vehicle_type.result.now c.args.visits.now c.totals_of-totals.result _ (grind (arith, nat_tests)) c.requires.listed.tidy c.totals_of-totals.ensures.totals
    refl c.excess_time.ensures.value c.excess_distance.ensures.value)

pub returns-clause-short : goal.returns-clause-short
returns-clause-short c =
    excess-within c.args.given.now c.vehicle_type-vehicle_type.result.now c.args.visits.now c.totals_of-totals.result _ c.requires.listed.tidy c.totals_of-totals.ensures.shared
    refl c.excess_time.ensures.value c.excess_distance.ensures.value
