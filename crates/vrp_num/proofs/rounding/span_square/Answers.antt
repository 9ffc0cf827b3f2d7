use Rattle.std.proofs.Common.{◌^◌, ◌≤◌, ◌*◌, arith}
use Rattle.std.proofs.lemmas.Nat.{mul-le}
use Rattle.std.proofs.lemmas.Int.{ints}
use Rattle.vrp_num.proofs.rounding.span_square.Goals as goal

pub returns-clause-bound : goal.returns-clause-bound
returns-clause-bound c =
    let span = c.abs_diff-span.result in
    let bound : span ≤ 2 * 10 ^ 12 = omega (arith, ints, c.abs_diff-span.ensures, c.requires.a, c.requires.b) in
    mul-le span span (2 * 10 ^ 12) (2 * 10 ^ 12) bound bound
