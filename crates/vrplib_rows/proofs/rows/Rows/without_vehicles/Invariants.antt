use Rattle.std.proofs.Common.{◌≡◌, ◌-◌, take}
use Rattle.vrplib_model.specs.Rows.{vehicle_count}
use Rattle.vrplib_rows.proofs.rows.Rows.without_vehicles.Given as goal

abbrev pub invariant-loop-k : goal.invariant-loop-k
invariant-loop-k l = l.left ≡ l.most - vehicle_count (take l.k l.self.rows)
