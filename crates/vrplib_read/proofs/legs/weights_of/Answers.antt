use Rattle.std.proofs.Common.{◌*◌, ◌^◌, flat_map}
use Rattle.std.proofs.lemmas.List.Elements.{All-same}
use Rattle.vrplib_model.specs.inside.FaultlessRows.{IsBetween}
use Rattle.vrplib_read.proofs.RowLaws.{weight_rows}
use Rattle.vrplib_read.proofs.legs.weights_of.Goals as goal

pub returns-clause-bounds : goal.returns-clause-bounds
returns-clause-bounds c =
    let rows = c.args.rows.now in
    All-same (IsBetween 0 (4 * 10 ^ 9)) c.numbers.result.now (flat_map (λ row. row) rows.rows) c.numbers.ensures.all
    (weight_rows rows.section rows.nodes rows.rows c.requires c.numbers.ensures.bounds)
