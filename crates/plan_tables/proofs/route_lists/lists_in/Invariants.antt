use Rattle.std.proofs.Common.{◌≡◌, take}
use Rattle.plan_tables.specs.Routes.{lists_of}
use Rattle.plan_tables.proofs.route_lists.lists_in.Given as goal

abbrev pub invariant-loop-route : goal.invariant-loop-route
invariant-loop-route l = l.lists.items ≡ lists_of (take l.route-index l.routes)
