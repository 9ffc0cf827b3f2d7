use Rattle.std.proofs.Common.{◌<◌, arith, length}
use Rattle.problem_data.specs.Places.{type_of}
use Rattle.plan_tables.specs.Unused.{IsLeast}
use Rattle.plan_tables.proofs.LeftVehicles.{turns}
use Rattle.plan_tables.proofs.unused.follow_use.Goals as goal

pub returns-then-is_used-before : goal.returns-then-is_used-before
returns-then-is_used-before c =
    let there : type_of c.args.given.now c.args.vehicle < length c.args.given.now.types = rw (← c.type_of-vehicle_type.ensures.number) c.type_of-vehicle_type.ensures.in_range in
    let found : IsLeast c.args.given.now c.args.sizes.now (type_of c.args.given.now c.args.vehicle) c.least_unused.result = rw (← c.type_of-vehicle_type.ensures.number) c.least_unused.ensures in
    rw c.type_of-vehicle_type.ensures.number
    (turns c.args.given.now c.args.sizes.now c.args.vehicle c.args.before (omega arith) c.args.unused.now c.least_unused.result c.requires.least there found)
