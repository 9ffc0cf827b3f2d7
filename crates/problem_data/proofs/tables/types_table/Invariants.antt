use Rattle.std.proofs.Common.{◌≡◌, ℕ, take, replicate}
use Rattle.std.specs.List.{enumerate_from, flat_map}
use Rattle.problem_data.specs.declared.problem.VehicleType.{VehicleType}
use Rattle.problem_data.proofs.tables.types_table.Given as goal

-- the types passed so far are in the table
abbrev pub invariant-loop-number : goal.invariant-loop-number
invariant-loop-number l =
    l.table.items ≡ flat_map (λ (e : ℕ × VehicleType). replicate e.1.count e.0) (enumerate_from 0 (take l.number l.types))
