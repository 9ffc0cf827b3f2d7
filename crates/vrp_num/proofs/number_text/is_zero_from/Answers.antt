use Rattle.vrp_num.proofs.Scaled.{zeros_are}
use Rattle.vrp_num.proofs.number_text.is_zero_from.Goals as goal

pub returns-then-are_zeros : goal.returns-then-are_zeros
returns-then-are_zeros c =
    zeros_are c.args.place c.saturating_sub-in_fraction.result c.args.whole.now c.args.fraction.now c.behind.result.now c.behind-then-are_zeros.result.now
    c.are_zeros.result c.are_zeros-then-are_zeros.result c.behind.ensures c.saturating_sub-in_fraction.ensures c.behind-then-are_zeros.ensures c.are_zeros.ensures c.if-are_zeros.true
    c.are_zeros-then-are_zeros.ensures
