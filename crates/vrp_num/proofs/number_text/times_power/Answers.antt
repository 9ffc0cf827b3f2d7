use Rattle.std.proofs.Common.{◌≡◌, min, arith, ap, ◌∙◌, ◌*◌, ◌^◌}
use Rattle.vrp_num.proofs.Scaled.{most, scaled_more, scaled_to_20}
use Rattle.vrp_num.proofs.number_text.times_power.Goals as goal

pub loop-count-preserved : goal.loop-count-preserved
loop-count-preserved c = scaled_more c.args.number c.loop-count.value c.saturating_mul-value.result c.loop-count._count c.loop-count.invariant (omega arith)

pub returns : goal.returns
returns c =
    let e : c.loop-count._count ≡ min c.args.tens 20 = omega arith in
    c.loop-count.invariant ∙ ap (λ x. min (c.args.number * 10 ^ x) most) e ∙ scaled_to_20 c.args.number c.args.tens
