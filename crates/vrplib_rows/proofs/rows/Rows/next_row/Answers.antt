use Rattle.std.proofs.Common.{sym, ◌∙◌, ap, arith}
use Rattle.vrplib_rows.specs.KeptRows.{Listed}
use Rattle.vrplib_rows.proofs.CutRows.{length-rows_cut}
use Rattle.vrplib_rows.proofs.rows.Rows.next_row.Goals as goal

pub returns-clause-follows : goal.returns-clause-follows
returns-clause-follows c = record {
  number = grind (arith, length-rows_cut);
  vehicles = λ e. c.vehicles_left.ensures (ap (λ (l : Listed). l.section) (sym c.self.view_is) ∙ e);
}
