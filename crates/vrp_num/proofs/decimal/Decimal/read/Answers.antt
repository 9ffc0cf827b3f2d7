use Rattle.std.proofs.Common.{sym, ◌∙◌}
use Rattle.vrp_num.proofs.Cut.{read_spelled, read_nothing}
use Rattle.vrp_num.proofs.decimal.Decimal.read.Goals as goal

pub returns-in-Some : goal.returns-in-Some
returns-in-Some c = read_spelled c.args.text.now c.in-Some.spelled (sym c.in-Some.is ∙ c.of.ensures)

pub returns-in-None : goal.returns-in-None
returns-in-None c = read_nothing c.args.text.now (sym c.in-None.is ∙ c.of.ensures)
