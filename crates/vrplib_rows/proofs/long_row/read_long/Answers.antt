use Rattle.std.proofs.Common.{◌≡◌, ◌++◌, [], ◌∷◌, ℕ, List, length, arith, rules, suc, ap, sym}
use mir.Syntax.{w64}
use mir.Val.{SFits}
use Rattle.std.proofs.lemmas.Int.{to_z-of_z}
use Rattle.std.proofs.lemmas.List.{length_push}
use Rattle.vrplib_model.specs.Lines.{tokens}
use Rattle.vrplib_rows.specs.inside.LongRows.{AreHead, IsTail}
use Rattle.vrplib_model.specs.Rows.{fields}
use Rattle.vrplib_rows.proofs.TokenWalks.{broken_here, field_there, length-fields, walks_on}
use Rattle.vrplib_rows.proofs.long_row.read_long.Goals as goal

pub returns-in-Err : goal.returns-in-Err
returns-in-Err c = λ rows follows.
    let line : List (List ℕ) = tokens c.args.line.now in
    let fs = fields c.args.next.section rows (length line) in
    let held = c.loop-token.invariant.held rows follows in
    let there = field_there c.args.mode fs line (tokens c.loop-token.rest.now) (tokens c.in-Some.after.now) held.0 c.in-Some.token.now c.loop-token.k c.field.result held.2 c.in-Some.ensures (length-fields c.args.next.section rows line c.requires.shape) (sym held.1) (c.field.ensures.field rows (length line) follows) in
    broken_here c.args.mode fs line (tokens c.loop-token.rest.now) (tokens c.in-Some.after.now) held.0 c.in-Some.token.now c.field.result c.in-Err.rule held.2 c.in-Some.ensures there c.in-Err.ensures

pub loop-token-preserved : goal.loop-token-preserved
loop-token-preserved c = record {
  places = (let one : length (tokens c.loop-token.rest.now) ≡ suc (length (tokens c.in-Some.after.now)) = ap length c.in-Some.ensures in omega (arith, one, c.loop-token.invariant.places));
  named = omega (arith, c.take.ensures.count, c.loop-token.invariant.named);
  held = λ rows follows.
      (let line : List (List ℕ) = tokens c.args.line.now in
      let fs = fields c.args.next.section rows (length line) in
      let held = c.loop-token.invariant.held rows follows in
      let there = field_there c.args.mode fs line (tokens c.loop-token.rest.now) (tokens c.in-Some.after.now) held.0 c.in-Some.token.now c.loop-token.k c.field.result held.2 c.in-Some.ensures (length-fields c.args.next.section rows line c.requires.shape) (sym held.1) (c.field.ensures.field rows (length line) follows) in
      let on = walks_on c.args.mode fs line (tokens c.loop-token.rest.now) (tokens c.in-Some.after.now) held.0 c.in-Some.token.now c.field.result c.in-Ok.number held.2 c.in-Some.ensures there c.in-Ok.ensures in
      let fits : SFits w64 c.in-Ok.number = search rules in
      let head : AreHead c.take.new.self.head (held.0 ++ c.in-Ok.number ∷ []) = simp to_z-of_z at (c.take.ensures.head held.0 held.1 held.3) in
      let tail : IsTail c.args.first c.args.nodes (held.0 ++ c.in-Ok.number ∷ []) c.take.new.self.tail = simp to_z-of_z at (c.take.ensures.tail held.0 held.1 held.4) in
      (held.0 ++ c.in-Ok.number ∷ [], omega (arith, length_push held.0 c.in-Ok.number, held.1), on, head, tail));
}
