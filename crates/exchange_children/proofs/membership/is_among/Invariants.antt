use Rattle.std.proofs.Common.{◌≡◌, false, take}
use Rattle.list_words.specs.Lists.{is_in}
use Rattle.exchange_children.proofs.membership.is_among.Given as goal

abbrev pub invariant-loop-other : goal.invariant-loop-other
invariant-loop-other l = is_in (take l.other-index l.numbers) l.number ≡ false
