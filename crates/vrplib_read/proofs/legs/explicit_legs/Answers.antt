use Rattle.std.proofs.Common.{◌*◌, ◌^◌, ◌≤◌, ◌∙◌, ap, length}
use Rattle.std.proofs.lemmas.List.Elements.{All-same}
use Rattle.std.proofs.lemmas.Result.{IfOk-weaker}
use Rattle.vrplib_model.specs.Entries.{counted}
use Rattle.vrplib_read.specs.inside.OfText.{weight_leg}
use Rattle.vrplib_model.proofs.WholeFacts.{length-counted}
use Rattle.vrplib_model.proofs.LegTables.{rows_by, rows_length}
use Rattle.vrplib_read.proofs.LegLaws.{explicit_rows, weights_small}
use Rattle.vrplib_read.proofs.legs.explicit_legs.Goals as goal

pub returns-clause-legs : goal.returns-clause-legs
returns-clause-legs c =
    IfOk-weaker c.weight_legs.result _ _ (λ legs h. λ all st e.
    explicit_rows c.args.reading.now all st c.node_count.result c.weights.result.now legs.items c.node_count.ensures.known c.weights.ensures.weights h e) c.weight_legs.ensures

pub returns-clause-bound : goal.returns-clause-bound
returns-clause-bound c =
    let leg = weight_leg c.args.reading.now.keywords.weight_format c.node_count.result c.weights.result.now in
    let ns = counted 1 c.node_count.result in
    IfOk-weaker c.weight_legs.result _ _ (λ legs h. All-same (λ leg. leg ≤ 4 * 10 ^ 9) legs.items (rows_by leg ns ns) h
    (weights_small c.args.reading.now.keywords.weight_format c.node_count.result c.weights.result.now ns ns c.weights.ensures.bounds)) c.weight_legs.ensures

pub returns-clause-count : goal.returns-clause-count
returns-clause-count c =
    let leg = weight_leg c.args.reading.now.keywords.weight_format c.node_count.result c.weights.result.now in
    let ns = counted 1 c.node_count.result in
    IfOk-weaker c.weight_legs.result _ _ (λ legs h.
    ap length h ∙ rows_length leg ns ns ∙ ap (λ n. n * n) (length-counted 1 c.node_count.result ∙ c.node_count.ensures.known)) c.weight_legs.ensures
