use Rattle.std.proofs.Common.{sym, ◌∙◌}
use Rattle.vrplib_model.specs.Lines.{tokens}
use Rattle.vrplib_read.proofs.ReadingLaws.{row-passed, row-stray, stands-row-passed}
use Rattle.vrplib_read.proofs.reading.Reading.read_row.Goals as goal

pub returns-in-Outside : goal.returns-in-Outside
returns-in-Outside c = λ before h. record {
  judged = row-stray c.args.self.now.mode (tokens c.args.line.now) before (sym h.position ∙ c.in-Outside.is);
  kept = λ none. absurd (cc);
}

pub returns-in-PassedOver : goal.returns-in-PassedOver
returns-in-PassedOver c = λ before h. record {
  judged = row-passed c.args.self.now.mode (tokens c.args.line.now) before (sym h.position ∙ c.in-PassedOver.is);
  kept = λ _. stands-row-passed c.args.self.now.mode (tokens c.args.line.now) before c.args.self.now h (sym h.position ∙ c.in-PassedOver.is);
}
