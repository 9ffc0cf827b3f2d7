use Rattle.std.proofs.Common.{◌≡◌, ◌*◌, ◌≤◌}
use Rattle.descent_memory.specs.Pairs.{pairs_before}
use Rattle.descent_memory.proofs.pairs.pairs_of.Given as goal

-- the pairs of the first vehicles
abbrev pub invariant-loop-first : goal.invariant-loop-first
invariant-loop-first l = record { pairs : l.pairs ≡ pairs_before l.vehicles l.first; few : l.pairs ≤ 4294967295 * l.first }
