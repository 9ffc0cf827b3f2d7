use Rattle.std.proofs.Common.{subst, take_all}
use Rattle.routing_model.specs.Routes.{Routes, is_visited}
use Rattle.plan_differences.specs.inside.Filling.{AreFilled}
use Rattle.plan_differences.proofs.FilledEntries.{filled-all}
use Rattle.plan_differences.proofs.filling.fill.Goals as goal

pub returns : goal.returns
returns c =
    filled-all c.args.given.now c.args.routes.now c.loop-vehicle.entries
    (subst (λ (routes : Routes). AreFilled c.args.given.now c.args.routes.now (is_visited routes) c.loop-vehicle.entries) (take_all c.loop-vehicle.vehicle c.args.routes.now c.loop-vehicle-test.false)
    c.loop-vehicle.invariant)
