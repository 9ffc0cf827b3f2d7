use Rattle.std.proofs.Common.{◌≡◌, min, take}
use Rattle.std.specs.Str.Parse.{digits_value_after}
use Rattle.vrp_num.proofs.Scaled.{most}
use Rattle.vrp_num.proofs.number_text.number_after.Given as goal

abbrev pub invariant-loop-digit : goal.invariant-loop-digit
invariant-loop-digit l = l.value ≡ min (digits_value_after 10 l.number (take l.digit-index l.digits)) most
