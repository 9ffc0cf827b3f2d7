use Rattle.std.proofs.Common.{sym, ◌∙◌}
use Rattle.vrp_num.proofs.Held.{found, decided_large, decided_fine, decided_value}
use Rattle.vrp_num.proofs.number_text.NumberText.decimal.Goals as goal

pub returns-then-is_above_limit : goal.returns-then-is_above_limit
returns-then-is_above_limit c =
    let parts = c.args.self.now in
    let size = c.number_before-size.result in
    let is_fine = c.is_zero_from-is_fine.result in
    let known = found parts c.place-place.result size is_fine c.requires c.is_zero_from-is_fine.ensures.short c.place-place.ensures c.number_before-size.ensures c.is_zero_from-is_fine.ensures.value in
    sym (known ∙ decided_large parts.is_negative c.is_above_limit.result is_fine size c.is_above_limit.ensures c.if-is_above_limit.true)

pub returns-then-is_fine : goal.returns-then-is_fine
returns-then-is_fine c =
    let parts = c.args.self.now in
    let size = c.number_before-size.result in
    let is_fine = c.is_zero_from-is_fine.result in
    let known = found parts c.place-place.result size is_fine c.requires c.is_zero_from-is_fine.ensures.short c.place-place.ensures c.number_before-size.ensures c.is_zero_from-is_fine.ensures.value in
    sym (known ∙ decided_value parts.is_negative c.is_negative.result c.is_above_limit.result is_fine size c.with_sign.result c.is_negative.ensures c.is_above_limit.ensures c.if-is_above_limit.false c.if-is_fine.true c.with_sign.ensures)

pub returns-else-is_fine : goal.returns-else-is_fine
returns-else-is_fine c =
    let parts = c.args.self.now in
    let size = c.number_before-size.result in
    let is_fine = c.is_zero_from-is_fine.result in
    let known = found parts c.place-place.result size is_fine c.requires c.is_zero_from-is_fine.ensures.short c.place-place.ensures c.number_before-size.ensures c.is_zero_from-is_fine.ensures.value in
    sym (known ∙ decided_fine parts.is_negative c.is_above_limit.result is_fine size c.is_above_limit.ensures c.if-is_above_limit.false c.if-is_fine.false)
