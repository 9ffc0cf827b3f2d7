use Rattle.std.proofs.Common.{sym, ◌∙◌}
use Rattle.vrplib_read.proofs.reading.Reading.is_short.Goals as goal

pub returns-in-Within : goal.returns-in-Within
returns-in-Within c = λ before h. rw (sym h.position ∙ c.in-Within.is) (c.is_section_short.ensures before h)
