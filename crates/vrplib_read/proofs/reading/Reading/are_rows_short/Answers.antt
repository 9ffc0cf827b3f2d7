use Rattle.std.proofs.Common.{◌∙◌, refl}
use Rattle.vrplib_read.proofs.ReadingLaws.{row_count-known}
use Rattle.vrplib_read.proofs.reading.Reading.are_rows_short.Goals as goal

pub returns : goal.returns
returns c = λ before h.
    let count = c.row_count.ensures ∙ row_count-known _ before c.args.section _ (h.sections c.args.section) in
    rw (count, c.least_rows.ensures, h.keywords.dimension) refl
