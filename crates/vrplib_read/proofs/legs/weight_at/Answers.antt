use Rattle.std.proofs.Common.{◌≤◌, ◌*◌, ◌^◌, rules}
use Rattle.vrplib_read.proofs.RowLaws.{number_within}
use Rattle.vrplib_read.proofs.legs.weight_at.Goals as goal

within : (c : goal.After-number_at) → c.number_at.result ≤ 4 * 10 ^ 9
within c = rw c.number_at.ensures (number_within (4 * 10 ^ 9) c.args.place c.args.weights.now c.requires)

pub overflow_cast-result : goal.overflow_cast-result
overflow_cast-result c = let small = within c in search rules

pub returns-clause-bound : goal.returns-clause-bound
returns-clause-bound c = within c
