use Rattle.std.proofs.Common.{length, ◌∙◌, ap}
use Rattle.std.specs.Option.{option_map_or}
use Rattle.vrplib_read.proofs.reading.Reading.row_count.Goals as goal

pub returns-in-Some : goal.returns-in-Some
returns-in-Some c = c.count.ensures.number ∙ ap (λ found. option_map_or (λ l. length l.rows) found 0) c.in-Some.ensures
