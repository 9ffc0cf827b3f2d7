use Rattle.std.proofs.Common.{◌<◌, ℕ, slice_index_or, Option}
use Rattle.plan_tables.specs.Unused.{IsLeast}
use Rattle.plan_tables.proofs.unused.fill_unused.Given as goal

abbrev pub invariant-loop-vehicle_type : goal.invariant-loop-vehicle_type
invariant-loop-vehicle_type l = (type : ℕ) (none : Option ℕ) → type < l.vehicle_type → IsLeast l.given l.sizes type (slice_index_or l.unused type none)
