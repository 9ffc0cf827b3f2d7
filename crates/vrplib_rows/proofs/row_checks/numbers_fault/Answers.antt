use Rattle.std.proofs.Common.{◌||◌, ◌&&◌, ◌++◌, sym, ◌∙◌, ap}
use Rattle.std.specs.Prelude.{flat_map}
use Rattle.vrplib_model.specs.Checks.{has_node_outside, has_repeated}
use Rattle.vrplib_model.specs.RowFaults.{names_once, nodes_named}
use Rattle.vrplib_rows.proofs.RowTests.{behind_two}
use Rattle.vrplib_rows.proofs.row_checks.numbers_fault.Goals as goal

pub returns-clause-answer : goal.returns-clause-answer
returns-clause-answer c = λ rows follows o.
    behind_two _ _ _ _
    (ap (λ ns. has_node_outside c.args.nodes ns || (names_once c.args.next.section && has_repeated (ns ++ flat_map (nodes_named c.args.next.section) rows))) (sym c.requires.named)
    ∙ sym (c.has_bad_node.ensures.answer rows o) ∙ c.if-has_bad_node.false)
    (sym c.has_empty_window.ensures ∙ c.if-has_empty_window.false)
    (c.kind_fault.ensures.answer c.args.nodes rows follows o)
