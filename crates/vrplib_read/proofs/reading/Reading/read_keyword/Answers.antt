use Rattle.std.proofs.Common.{refl, sym, ◌∙◌}
use Rattle.vrplib_model.specs.Lines.{tokens}
use Rattle.vrplib_read.proofs.ReadingLaws.{for-some, keyword-checks, keyword-passed, stands-keyword}
use Rattle.vrplib_read.proofs.reading.Reading.read_keyword.Goals as goal

pub returns-then-is_short : goal.returns-then-is_short
returns-then-is_short c = λ before h. record {
  judged = sym (keyword-checks c.args.self.now.mode c.args.key.now (tokens c.args.value.now) before _ _ (sym (c.is_short.ensures before h) ∙ c.if-is_short.true) refl);
  kept = λ none. absurd (cc);
}

pub returns : goal.returns
returns c = λ before h. record {
  judged = keyword-passed c.args.self.now.mode c.args.key.now (tokens c.args.value.now) before _ (sym (c.is_short.ensures before h) ∙ c.if-is_short.false) (c.read_line.ensures.fault before h.keywords);
  kept = λ none. stands-keyword c.args.self.now.mode c.args.key.now (tokens c.args.value.now) before c.args.self.now _ h refl refl
      (c.read_line.ensures.kept none before h.keywords) refl (λ s some. c.read_line.ensures.dimension (for-some _ some (c.args.self.now.sized s)));
}
