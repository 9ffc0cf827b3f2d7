use Rattle.std.proofs.Common.{sym}
use Rattle.vrp_num.proofs.Cut.{are_digits, spelled_is, nothing_spelled}
use Rattle.vrp_num.proofs.spelled.Spelled.of.Goals as goal

pub is_whole-requires : goal.is_whole-requires
is_whole-requires c = are_digits c.args.text.now c.in-Some.number c.in-Some.ensures.0 c.in-Some.ensures.1

pub decimal-requires : goal.decimal-requires
decimal-requires c = are_digits c.args.text.now c.in-Some.number c.in-Some.ensures.0 c.in-Some.ensures.1

pub returns-in-Some : goal.returns-in-Some
returns-in-Some c =
    spelled_is c.args.text.now c.in-Some.number c.is_negative.result c.is_whole.result c.decimal.result c.in-Some.ensures.0 c.in-Some.ensures.1 c.is_negative.ensures c.is_whole.ensures
    c.decimal.ensures

pub returns-in-None : goal.returns-in-None
returns-in-None c = sym (nothing_spelled c.args.text.now c.in-None.ensures)
