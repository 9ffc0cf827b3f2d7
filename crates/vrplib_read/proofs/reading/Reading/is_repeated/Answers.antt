use Rattle.std.proofs.Common.{sym, ◌∙◌, ap}
use Rattle.std.specs.Prelude.{is_some}
use Rattle.vrplib_read.proofs.ReadingLaws.{has_section-known, is_some-copied}
use Rattle.vrplib_read.proofs.reading.Reading.is_repeated.Goals as goal

pub returns-in-Some : goal.returns-in-Some
returns-in-Some c = λ before h. rw c.in-Some.is (c.is_some.ensures ∙ (sym (is_some-copied c.rows_of.result) ∙ (ap is_some c.rows_of.ensures ∙ has_section-known _ before c.in-Some.section _ (h.sections c.in-Some.section))))
