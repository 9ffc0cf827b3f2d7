use Rattle.std.proofs.Common.{arith}
use Rattle.vrp_num.proofs.Scaled.{digit_at, capped_more}
use Rattle.vrp_num.proofs.number_text.number_after.Goals as goal

pub overflow_sub-digit : goal.overflow_sub-digit
overflow_sub-digit c = digit_at c.args.digits.now c.loop-digit.digit-index c.requires (omega arith)

pub loop-digit-preserved : goal.loop-digit-preserved
loop-digit-preserved c =
    capped_more c.args.number c.loop-digit.value c.saturating_add-value.result c.from.result c.args.digits.now c.loop-digit.digit-index c.requires (omega arith)
    c.loop-digit.invariant (omega arith) (omega arith)
