use Rattle.std.proofs.Common.{◌*◌, ◌^◌, ◌≤◌, ◌∙◌, ap, length}
use Rattle.std.proofs.lemmas.List.Elements.{All-same}
use Rattle.std.proofs.lemmas.Result.{IfOk-weaker}
use Rattle.vrplib_read.specs.inside.OfText.{place_leg}
use Rattle.vrplib_model.proofs.LegTables.{rows_by, rows_length}
use Rattle.vrplib_read.proofs.LegLaws.{euclidean_rows, places_within}
use Rattle.vrplib_read.proofs.legs.euclidean_legs.Goals as goal

pub returns-clause-legs : goal.returns-clause-legs
returns-clause-legs c =
    let mode = c.args.reading.now.mode in
    let places = c.args.places.now in
    IfOk-weaker c.distances.result _ _ (λ legs h. λ all st e. euclidean_rows mode all places legs.items h (c.requires.places all st) e) c.distances.ensures

pub returns-clause-bound : goal.returns-clause-bound
returns-clause-bound c =
    let mode = c.args.reading.now.mode in
    let places = c.args.places.now in
    IfOk-weaker c.distances.result _ _ (λ legs h. All-same (λ leg. leg ≤ 4 * 10 ^ 9) legs.items (rows_by (place_leg mode) places places) h (places_within mode places c.requires.valid)) c.distances.ensures

pub returns-clause-count : goal.returns-clause-count
returns-clause-count c =
    let mode = c.args.reading.now.mode in
    let places = c.args.places.now in
    IfOk-weaker c.distances.result _ _ (λ legs h. ap length h ∙ rows_length (place_leg mode) places places ∙ ap (λ n. n * n) c.requires.count) c.distances.ensures
