use Rattle.std.proofs.Common.{◌≡◌, sym, ◌∙◌, ap, length, arith}
use Rattle.std.specs.Prelude.{option_map}
use Rattle.std.specs.Str.Lines.{lines}
use Rattle.std.proofs.lemmas.List.{nil_from_length}
use Rattle.std.proofs.lemmas.Bool.Decides.{nat_tests}
use Rattle.vrplib_read.proofs.Driven.{faultless, faulty, reads-all, reads-end, reads-fault, reads-mode, reads-more}
use Rattle.vrplib_read.proofs.reader.read_lines.Goals as goal

pub returns-in-Some-clause-fault : goal.returns-in-Some-clause-fault
returns-in-Some-clause-fault c =
    let so_far = c.loop-rest.invariant.0 in
    reads-fault c.args.reading.now.mode (lines c.args.text.now) (lines c.loop-rest.rest.now) (lines c.next_line.result.1.now) c.loop-rest.number
    c.loop-rest.reading c.read_line.new.self c.next_line.result.0.now c.in-Some.rule so_far (reads-mode _ _ _ _ _ so_far) c.next_line.ensures.lines
    (faulty c.loop-rest.reading c.read_line.new.self c.next_line.result.0.now _ c.in-Some.rule c.in-Some.is c.in_ok-rule.ensures)

pub returns-then-is_end-clause-fault : goal.returns-then-is_end-clause-fault
returns-then-is_end-clause-fault c =
    let so_far = c.loop-rest.invariant.0 in
    (reads-end c.args.reading.now.mode (lines c.args.text.now) (lines c.loop-rest.rest.now) (lines c.next_line.result.1.now) c.loop-rest.number
    c.loop-rest.reading c.read_line.new.self c.next_line.result.0.now so_far (reads-mode _ _ _ _ _ so_far) c.next_line.ensures.lines
    (faultless c.loop-rest.reading c.read_line.new.self c.next_line.result.0.now _ c.in_default.not-Some c.in_ok-rule.ensures) (sym c.is_end.ensures ∙ c.if-is_end.true)).0

pub returns-then-is_end-clause-kept : goal.returns-then-is_end-clause-kept
returns-then-is_end-clause-kept c = λ _.
    let so_far = c.loop-rest.invariant.0 in
    (reads-end c.args.reading.now.mode (lines c.args.text.now) (lines c.loop-rest.rest.now) (lines c.next_line.result.1.now) c.loop-rest.number
    c.loop-rest.reading c.read_line.new.self c.next_line.result.0.now so_far (reads-mode _ _ _ _ _ so_far) c.next_line.ensures.lines
    (faultless c.loop-rest.reading c.read_line.new.self c.next_line.result.0.now _ c.in_default.not-Some c.in_ok-rule.ensures) (sym c.is_end.ensures ∙ c.if-is_end.true)).1

pub loop-rest-preserved : goal.loop-rest-preserved
loop-rest-preserved c =
    let so_far = c.loop-rest.invariant.0 in (
      reads-more c.args.reading.now.mode (lines c.args.text.now) (lines c.loop-rest.rest.now) (lines c.next_line.result.1.now) c.loop-rest.number
          c.loop-rest.reading c.read_line.new.self c.next_line.result.0.now so_far (reads-mode _ _ _ _ _ so_far) c.next_line.ensures.lines
          (faultless c.loop-rest.reading c.read_line.new.self c.next_line.result.0.now _ c.in_default.not-Some c.in_ok-rule.ensures) (sym c.is_end.ensures ∙ c.if-is_end.false),
      omega (arith, c.loop-rest.invariant.1, c.next_line.ensures.shorter),
    )

pub returns-in-Some-end_fault-clause-fault : goal.returns-in-Some-end_fault-clause-fault
returns-in-Some-end_fault-clause-fault c =
    let so_far = c.loop-rest.invariant.0 in
    let none : length c.loop-rest.rest.now ≡ 0 = grind (arith, nat_tests) in
    ap (option_map _) (sym c.in-Some-end_fault.is) ∙ reads-all c.args.reading.now.mode (lines c.args.text.now) (lines c.loop-rest.rest.now) c.loop-rest.number c.loop-rest.reading _
    so_far (reads-mode _ _ _ _ _ so_far) (ap lines (nil_from_length c.loop-rest.rest.now none)) c.end_fault.ensures

pub returns-in-None-clause-fault : goal.returns-in-None-clause-fault
returns-in-None-clause-fault c =
    let so_far = c.loop-rest.invariant.0 in
    let none : length c.loop-rest.rest.now ≡ 0 = grind (arith, nat_tests) in
    ap (option_map _) (sym c.in-None.is) ∙ reads-all c.args.reading.now.mode (lines c.args.text.now) (lines c.loop-rest.rest.now) c.loop-rest.number c.loop-rest.reading _
    so_far (reads-mode _ _ _ _ _ so_far) (ap lines (nil_from_length c.loop-rest.rest.now none)) c.end_fault.ensures
