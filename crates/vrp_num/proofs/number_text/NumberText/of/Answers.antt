use Rattle.std.proofs.Common.{refl, sym, ◌∙◌}
use Rattle.vrp_num.proofs.Cut.{number_is}
use Rattle.vrp_num.proofs.number_text.NumberText.of.Goals as goal

pub returns-then-are_of_number : goal.returns-then-are_of_number
returns-then-are_of_number c =
    let known = number_is c.args.text.now c.exponent_mark-mark.result _ c.are_of_number.result c.cut-parts.result c.exponent_mark-mark.ensures c.cut-parts.ensures refl c.are_of_number.ensures in
    (sym known ∙ c.if-are_of_number.true, c.cut-parts.ensures)

pub returns-else-are_of_number : goal.returns-else-are_of_number
returns-else-are_of_number c =
    let known = number_is c.args.text.now c.exponent_mark-mark.result _ c.are_of_number.result c.cut-parts.result c.exponent_mark-mark.ensures c.cut-parts.ensures refl c.are_of_number.ensures in
    sym known ∙ c.if-are_of_number.false
