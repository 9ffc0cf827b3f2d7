use Rattle.std.proofs.Common.{◌≡◌, map, take}
use Rattle.vrplib_model.specs.Fleet.{type_of_row}
use Rattle.vrplib_read.proofs.fleet.types_in.Given as goal

abbrev pub invariant-loop-k : goal.invariant-loop-k
invariant-loop-k l = l.types.items ≡ map type_of_row (take l.k l.rows.rows)
