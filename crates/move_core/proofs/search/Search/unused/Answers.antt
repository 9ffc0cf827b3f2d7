use Rattle.std.proofs.Common.{◌≤◌, arith, length, sym, None}
use Rattle.plan_tables.specs.Routes.{lists_of}
use Rattle.plan_tables.specs.Unused.{AreUnused}
use Rattle.plan_tables.proofs.FreeVehicles.{found-within, unused-none}
use Rattle.plan_tables.proofs.LeastVehicles.{kept-unused}
use Rattle.move_core.proofs.search.Search.unused.Goals as goal

pub returns-then-vehicle_type-unused-clause-unused : goal.returns-then-vehicle_type-unused-clause-unused
returns-then-vehicle_type-unused-clause-unused c =
    rw (← c.self.view_is)
    (let far : length c.self.inside.given.now.types ≤ c.args.vehicle_type = omega (arith, c.self.invariant.plan.has_tables.has_unused.count, c.as_slice-unused.ensures.len) in
    sym (unused-none c.self.inside.given.now (lists_of c.self.inside.routes.items) c.args.vehicle_type c.self.invariant.plan.sound.one_list_each far))

pub returns-clause-unused : goal.returns-clause-unused
returns-clause-unused c =
    rw (← c.self.view_is)
    (let are : AreUnused c.self.inside.given.now (lists_of c.self.inside.routes.items) c.as_slice-unused.result.now = rw c.as_slice-unused.ensures.value (kept-unused c.self.inside.given.now c.self.inside.weights c.self.inside.routes.items c.self.inside.kept c.self.invariant.plan.sound.listed c.self.invariant.plan.has_tables) in
    are.each c.args.vehicle_type None (omega (arith, are.count, c.if-vehicle_type-unused.false)))

pub returns-clause-in_range : goal.returns-clause-in_range
returns-clause-in_range c =
    rw (← c.self.view_is)
    (found-within c.self.inside.given.now (lists_of c.self.inside.routes.items) c.as_slice-unused.result.now c.args.vehicle_type None c.self.invariant.plan.sound.one_list_each (rw c.as_slice-unused.ensures.value (kept-unused c.self.inside.given.now c.self.inside.weights c.self.inside.routes.items c.self.inside.kept c.self.invariant.plan.sound.listed c.self.invariant.plan.has_tables)) c.if-vehicle_type-unused.false)
