use Rattle.std.proofs.Common.{take}
use Rattle.plan_tables.specs.Routes.{AreRoutesOf}
use Rattle.plan_tables.proofs.route_lists.routes_of.Given as goal

abbrev pub invariant-loop-vehicle : goal.invariant-loop-vehicle
invariant-loop-vehicle l = AreRoutesOf l.given (take l.vehicle l.lists) l.routes.items
