use Rattle.std.proofs.Common.{◌≡◌, ◌<◌, ℕ, false}
use Rattle.plan_tables.specs.Unused.{is_left}
use Rattle.plan_tables.proofs.unused.least_unused.Given as goal

abbrev pub invariant-loop-vehicle : goal.invariant-loop-vehicle
invariant-loop-vehicle l = (other : ℕ) → other < l.vehicle → is_left l.given l.sizes l.vehicle_type other ≡ false
