use Rattle.std.proofs.Common.{◌≡◌, ◌∙◌, IfOk, string_bytes, rules}
use Rattle.std.proofs.lemmas.Result.{IfOk-weaker}
use Rattle.vrp_texts.proofs.Columns.{formatted_line, formatted_line-is}
use Rattle.pyvrp.proofs.table.table_line.Goals as goal

pub returns : goal.returns
returns c =
    let name = c.args.name.now in
    let ok = c.args.ok.now in
    let cost = c.args.cost.now in
    let iterations = c.args.iterations.now in
    let formatted : IfOk c.format.result (λ text. string_bytes text ≡ formatted_line name ok cost iterations) = search rules in
    IfOk-weaker c.format.result _ _
    (λ text written. written ∙ formatted_line-is name ok cost iterations (search rules) (search rules) (search rules) (search rules)) formatted
