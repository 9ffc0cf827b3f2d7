use Rattle.std.proofs.Common.{length, ◌∙◌, ap}
use Rattle.std.specs.Prelude.{flat_map}
use Rattle.std.specs.Option.{option_map_or}
use Rattle.vrplib_read.proofs.reading.Reading.number_count.Goals as goal

pub returns-in-Some : goal.returns-in-Some
returns-in-Some c = ap length c.numbers.ensures.all ∙ ap (λ found. option_map_or (λ l. length (flat_map (λ row. row) l.rows)) found 0) c.in-Some.ensures
