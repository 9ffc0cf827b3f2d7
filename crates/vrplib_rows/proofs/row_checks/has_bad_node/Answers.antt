use Rattle.std.proofs.Common.{sym, ◌∙◌}
use Rattle.vrplib_rows.proofs.RowTests.{last_test}
use Rattle.vrplib_rows.proofs.row_checks.has_bad_node.Goals as goal

pub returns-then-names_once-clause-answer : goal.returns-then-names_once-clause-answer
returns-then-names_once-clause-answer c = λ rows o.
    last_test _ _ _ _ (sym c.has_node_outside.ensures.answer ∙ c.if-has_node_outside.false) (sym c.names_once.ensures ∙ c.if-names_once.true) (c.comes_again.ensures.answer c.args.nodes rows o)
