use Rattle.std.proofs.Common.{◌≡◌, ◌++◌, [], ◌∷◌, ℕ, List, ℤ, length, rules, subst, sym}
use mir.Syntax.{w64}
use mir.Val.{SFits}
use Rattle.std.proofs.lemmas.Int.{to_z-of_z}
use Rattle.vrplib_model.specs.Lines.{tokens}
use Rattle.vrplib_model.specs.Rows.{fields}
use Rattle.vrplib_rows.proofs.TokenWalks.{Walks, broken_here, field_there, length-fields, walks_on}
use Rattle.vrplib_rows.proofs.row_numbers.read_numbers.Goals as goal

pub returns-in-Err-clause-fault : goal.returns-in-Err-clause-fault
returns-in-Err-clause-fault c = λ rows follows.
    let line : List (List ℕ) = tokens c.args.line.now in
    let fs = fields c.args.next.section rows (length line) in
    let at : c.len.result ≡ length c.loop-token.row.items = search rules in
    let w = c.loop-token.invariant rows follows in
    let there = field_there c.args.mode fs line (tokens c.loop-token.rest.now) (tokens c.in-Some.after.now) c.loop-token.row.items c.in-Some.token.now c.len.result c.field.result w c.in-Some.ensures (length-fields c.args.next.section rows line c.requires) at (c.field.ensures.field rows (length line) follows) in
    broken_here c.args.mode fs line (tokens c.loop-token.rest.now) (tokens c.in-Some.after.now) c.loop-token.row.items c.in-Some.token.now c.field.result c.in-Err.rule w c.in-Some.ensures there c.in-Err.ensures

pub loop-token-preserved : goal.loop-token-preserved
loop-token-preserved c = λ rows follows.
    let line : List (List ℕ) = tokens c.args.line.now in
    let fs = fields c.args.next.section rows (length line) in
    let at : c.len.result ≡ length c.loop-token.row.items = search rules in
    let w = c.loop-token.invariant rows follows in
    let there = field_there c.args.mode fs line (tokens c.loop-token.rest.now) (tokens c.in-Some.after.now) c.loop-token.row.items c.in-Some.token.now c.len.result c.field.result w c.in-Some.ensures (length-fields c.args.next.section rows line c.requires) at (c.field.ensures.field rows (length line) follows) in
    let on = walks_on c.args.mode fs line (tokens c.loop-token.rest.now) (tokens c.in-Some.after.now) c.loop-token.row.items c.in-Some.token.now c.field.result c.in-Ok.number w c.in-Some.ensures there c.in-Ok.ensures in
    let fits : SFits w64 c.in-Ok.number = search rules in
    let pushed : c.push.new.self.items ≡ c.loop-token.row.items ++ c.in-Ok.number ∷ [] = simp to_z-of_z at c.in_ok-push-in-Ok.ensures.items in
    let P : List ℤ → Type 0 = λ row. Walks c.args.mode fs line (tokens c.in-Some.after.now) row in
    subst P (sym pushed) on
