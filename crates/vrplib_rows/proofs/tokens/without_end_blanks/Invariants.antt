use Rattle.std.proofs.Common.{◌≡◌, length, reverse}
use Rattle.vrplib_model.specs.Lines.{without_indent}
use Rattle.vrplib_rows.proofs.tokens.without_end_blanks.Given as goal

abbrev pub invariant-loop-rest : goal.invariant-loop-rest
invariant-loop-rest l = reverse (without_indent (reverse l.rest)) ≡ reverse (without_indent (reverse l.text))

abbrev pub decreases-loop-rest : goal.decreases-loop-rest
decreases-loop-rest l = length l.rest
