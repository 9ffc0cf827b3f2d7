use Rattle.std.proofs.Common.{sym, ◌∙◌, inl, inr}
use Rattle.vrplib_model.specs.declared.position.Position.TheVariants.{PassedOver as passed_over, Outside as outside, Within as within}
use Rattle.vrplib_read.proofs.ReadingLaws.{word-checks, stands-word}
use Rattle.vrplib_read.proofs.reading.Reading.word_fault.Goals as goal

pub returns-in-PassedOver : goal.returns-in-PassedOver
returns-in-PassedOver c = λ before h. record {
  judged = sym (word-checks c.args.self.now.mode before passed_over (sym h.position ∙ c.in-PassedOver.is));
  kept = λ _. stands-word c.args.self.now.mode before c.args.self.now h;
}

pub returns-in-Outside : goal.returns-in-Outside
returns-in-Outside c = λ before h. record {
  judged = elim c.in-Outside.is [
    | inl e ↦ sym (word-checks c.args.self.now.mode before outside (sym h.position ∙ e))
    | inr e ↦ sym (word-checks c.args.self.now.mode before (within e.0) (sym h.position ∙ e.1))
  ];
  kept = λ none. absurd (cc);
}
