use Rattle.std.proofs.Common.{sym, ◌∙◌}
use Rattle.std.proofs.lemmas.Result.{IfOk-weaker}
use Rattle.vrplib_read.proofs.ReadingLaws.{text-checks, text-judged}
use Rattle.vrplib_read.proofs.reading.Reading.read_line.Goals as goal

pub returns-then-contains : goal.returns-then-contains
returns-then-contains c = λ before h. record {
  judged = sym (text-checks c.args.self.now.mode before c.args.text.now _ (sym c.contains.ensures.value ∙ c.if-contains.true));
  kept = λ none. absurd (cc);
}

pub returns : goal.returns
returns c = IfOk-weaker c.read_kind.result _ _ (λ fault judged before h.
    text-judged c.args.self.now c.read_kind.new.self c.args.text.now _ fault before (sym c.contains.ensures.value ∙ c.if-contains.false) c.line_of.ensures (judged before h))
    c.read_kind.ensures
