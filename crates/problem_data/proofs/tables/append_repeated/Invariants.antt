use Rattle.std.proofs.Common.{◌≡◌, ◌++◌, replicate}
use Rattle.problem_data.proofs.tables.append_repeated.Given as goal

-- so many are appended
abbrev pub invariant-loop : goal.invariant-loop
invariant-loop l = l.table.items ≡ l.fn.table.items ++ replicate l.counter l.number
