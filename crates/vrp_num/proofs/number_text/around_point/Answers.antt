use Rattle.vrp_num.specs.DecimalText.{is_point}
use Rattle.vrp_num.proofs.Cut.{place_within}
use Rattle.vrp_num.proofs.number_text.around_point.Goals as goal

pub around-requires : goal.around-requires
around-requires c = place_within is_point c.args.text.now c.point.result c.point.ensures
