use Rattle.std.proofs.Common.{◌∙◌, ap, arith, List}
use Rattle.problem_data.specs.declared.visit.Visit.{Visit}
use Rattle.plan_tables.specs.Routes.{vehicle_route}
use Rattle.plan_tables.proofs.ListRoutes.{routes-more}
use Rattle.plan_tables.proofs.route_lists.routes_of.Goals as goal

pub loop-vehicle-preserved : goal.loop-vehicle-preserved
loop-vehicle-preserved c =
    rw c.in_ok-push.ensures.items
    (routes-more c.args.given.now c.args.lists.now c.loop-vehicle.vehicle c.index-lists-vehicle.result c.loop-vehicle.routes.items c.in_ok-with_visits.field-0 (omega arith) c.loop-vehicle.invariant
    (c.in_ok-with_visits.ensures.route ∙ ap (λ (xs : List Visit). vehicle_route c.args.given.now xs c.loop-vehicle.vehicle) (c.items.ensures ∙ c.index-lists-vehicle.is)))
