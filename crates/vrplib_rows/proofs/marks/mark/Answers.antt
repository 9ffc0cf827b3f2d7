use Rattle.std.proofs.Common.{◌≡◌, ◌<◌, ℕ, List, length, get_or, sym, ◌∙◌, arith}
use Rattle.std.proofs.lemmas.List.{get_or_default}
use Rattle.vrplib_rows.proofs.Repeats.{apart_more, contains_at_start, marked_more, repeated_at_mark}
use Rattle.vrplib_rows.proofs.marks.mark.Goals as goal

at_place : (xs : List ℕ) (i : ℕ) → i < length xs → get_or xs i 0 ≡ get_or xs i (get_or xs i 0)
at_place xs i h = get_or_default xs i 0 (get_or xs i 0) h

pub returns-then-marked-place-clause-answer : goal.returns-then-marked-place-clause-answer
returns-then-marked-place-clause-answer c =
    let h : c.loop-number.number-index < length c.args.list.now = omega arith in
    sym (repeated_at_mark c.loop-number.marked c.args.list.now c.loop-number.number-index _ h (at_place _ _ h) c.loop-number.invariant.0 c.if-marked-place.true)

pub returns-then-marked-place-clause-others : goal.returns-then-marked-place-clause-others
returns-then-marked-place-clause-others c = λ n out.
    c.loop-number.invariant.0.each n ∙ contains_at_start n c.loop-number.number-index c.args.list.now out

pub loop-number-preserved : goal.loop-number-preserved
loop-number-preserved c =
    let h : c.loop-number.number-index < length c.args.list.now = omega arith in (
      marked_more c.loop-number.marked c.args.list.now c.loop-number.number-index _ h (at_place _ _ h) (omega arith) c.loop-number.invariant.0,
      apart_more c.loop-number.marked c.args.list.now c.loop-number.number-index _ h (at_place _ _ h) c.loop-number.invariant.0 c.if-marked-place.false c.loop-number.invariant.1,
    )
