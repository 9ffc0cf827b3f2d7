use Rattle.std.proofs.Common.{refl, sym, ◌∙◌}
use Rattle.vrplib_read.proofs.reading.Reading.end_fault.Goals as goal

pub returns-then-is_short : goal.returns-then-is_short
returns-then-is_short c = λ before h. rw (sym (c.is_short.ensures before h) ∙ c.if-is_short.true) refl

pub returns-else-is_short : goal.returns-else-is_short
returns-else-is_short c = λ before h. rw (sym (c.is_short.ensures before h) ∙ c.if-is_short.false) refl
