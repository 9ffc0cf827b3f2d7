use Rattle.vrp_num.proofs.Scaled.{digits_take, number_joined}
use Rattle.vrp_num.proofs.number_text.number_before.Goals as goal

pub number_after-front-requires : goal.number_after-front-requires
number_after-front-requires c = digits_take c.args.place c.args.whole.now c.before-2.result.now c.before-2.ensures c.requires.whole

pub number_after-number-requires : goal.number_after-number-requires
number_after-number-requires c = digits_take c.saturating_sub-in_fraction.result c.args.fraction.now c.before-3.result.now c.before-3.ensures c.requires.fraction

pub returns : goal.returns
returns c =
    number_joined c.args.place c.saturating_sub-in_fraction.result c.saturating_sub.result c.args.whole.now c.args.fraction.now c.before-2.result.now c.before-3.result.now
    c.number_after-front.result c.number_after-number.result c.times_power.result
    c.saturating_sub-in_fraction.ensures c.saturating_sub.ensures c.before-2.ensures c.before-3.ensures c.number_after-front.ensures c.number_after-number.ensures c.times_power.ensures
