use Rattle.std.proofs.Common.{refl}
use Rattle.penalty_cost.proofs.WholeTotals.{are-totals}
use Rattle.penalty_cost.proofs.totals.totals_in.Goals as goal

pub returns-clause-totals : goal.returns-clause-totals
returns-clause-totals c = λ p t visits valid allowed is.
    are-totals p t visits valid allowed c.args.whole is c.least_duration.result c.least_warp.result c.least_duration.ensures.value c.least_warp.ensures.value _ refl refl refl refl
