use Rattle.std.proofs.lemmas.List.{take_rest}
use Rattle.vrplib_rows.proofs.LineLaws.{lines-cut, lines-one}
use Rattle.vrplib_rows.proofs.text_lines.next_line.Goals as goal

pub returns-then-length-text-clause-lines : goal.returns-then-length-text-clause-lines
returns-then-length-text-clause-lines c =
    lines-cut c.args.text.now _ _ _ c.line_length-length.ensures c.if-length-text.true c.without_carriage_return.ensures (take_rest c.args.text.now _)

pub returns-else-length-text-clause-lines : goal.returns-else-length-text-clause-lines
returns-else-length-text-clause-lines c = lines-one c.args.text.now _ c.line_length-length.ensures c.if-length-text.false c.requires
