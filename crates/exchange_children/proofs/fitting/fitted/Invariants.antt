use Rattle.std.proofs.Common.{◌≡◌, ◌++◌, drop}
use Rattle.genetic_model.specs.RouteChildren.{fitted}
use Rattle.exchange_children.proofs.FittedLists.{fitted_within}
use Rattle.exchange_children.proofs.fitting.fitted.Given as goal

abbrev pub invariant-loop-visit : goal.invariant-loop-visit
invariant-loop-visit l = l.list.items ++ fitted_within l.vehicle_type l.left (drop l.visit-index l.visits) ≡ fitted l.vehicle_type l.visits
