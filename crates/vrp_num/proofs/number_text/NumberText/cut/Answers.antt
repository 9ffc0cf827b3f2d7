use Rattle.vrp_num.specs.DecimalText.{is_exponent_mark}
use Rattle.vrp_num.proofs.Cut.{place_within, parts_are}
use Rattle.vrp_num.proofs.number_text.NumberText.cut.Goals as goal

pub around-requires : goal.around-requires
around-requires c = place_within is_exponent_mark c.args.text.now c.args.mark c.requires

pub returns : goal.returns
returns c =
    parts_are c.args.text.now c.around.result.0.now c.around.result.1.now c.unsigned-digits.result.now c.around_point.result.0.now c.around_point.result.1.now c.unsigned.result.now
    c.args.mark c.is_minus.result c.is_minus-2.result c.requires c.around.ensures.before c.around.ensures.behind c.unsigned-digits.ensures c.around_point.ensures.before
    c.around_point.ensures.behind c.is_minus.ensures c.is_minus-2.ensures c.unsigned.ensures
