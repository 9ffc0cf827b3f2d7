use Rattle.std.proofs.Common.{◌∙◌, lit≤}
use Rattle.vrp_num.proofs.Held.{told, whole_is}
use Rattle.vrp_num.proofs.number_text.NumberText.is_whole.Goals as goal

pub returns : goal.returns
returns c =
    let parts = c.args.self.now in
    let place = c.place.result in
    whole_is parts c.is_zero_from.result (c.is_zero_from.ensures.value ∙ (told parts 0 place c.requires c.is_zero_from.ensures.short.0 c.is_zero_from.ensures.short.1 (lit≤ tt) c.place.ensures).1)
