use Rattle.std.proofs.Common.{take}
use Rattle.routing_model.specs.Routes.{is_visited}
use Rattle.plan_differences.specs.inside.Filling.{AreFilled}
use Rattle.plan_differences.proofs.filling.fill.Given as goal

abbrev pub invariant-loop-vehicle : goal.invariant-loop-vehicle
invariant-loop-vehicle l = AreFilled l.given l.routes (is_visited (take l.vehicle l.routes)) l.entries
