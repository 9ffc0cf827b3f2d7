use Rattle.std.proofs.Common.{arith}
use Rattle.problem_data.proofs.VehicleNumbers.{type_numbers_more}
use Rattle.problem_data.proofs.tables.types_table.Goals as goal

pub loop-number-preserved : goal.loop-number-preserved
loop-number-preserved c =
    rw (type_numbers_more c.args.types.now c.loop-number.number c.index-types-number.result (omega arith) c.index-types-number.is, ← c.loop-number.invariant)
    c.in_ok-append_repeated.ensures
