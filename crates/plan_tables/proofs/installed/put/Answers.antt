use Rattle.std.proofs.Common.{◌≡◌, ◌∙◌, arith, length, sym}
use Rattle.routing_model.specs.Listed.{type_of_vehicle}
use Rattle.plan_tables.specs.Figures.{rest_of}
use Rattle.plan_tables.proofs.LeftVehicles.{least-before}
use Rattle.plan_tables.proofs.RouteFigures.{figures_set, rest-read, rest-small}
use Rattle.plan_tables.proofs.WrittenBack.{written-back}
use Rattle.plan_tables.proofs.installed.put.Goals as goal

pub returns-in-Some-clause-figures : goal.returns-in-Some-clause-figures
returns-in-Some-clause-figures c =
    let route = c.in-Some.route in
    figures_set c.args.weights c.args.routes.now.items c.vehicle-vehicle.result route c.args.kept.now.sizes.items c.args.kept.now.rests.items c.args.kept.now.costs.items _ _ _ c.requires.figures c.size_of.ensures
    (rest-read c.rest_of.result (rest_of route.problem c.args.weights (type_of_vehicle route.problem route.vehicle) route.visits) c.rest_of.ensures (rest-small route.problem c.args.weights (type_of_vehicle route.problem route.vehicle) route.visits))
    c.kept_cost.ensures.cost

pub follow_use-requires-clause-least : goal.follow_use-requires-clause-least
follow_use-requires-clause-least c =
    least-before c.args.given.now c.args.kept.now.sizes.items c.as_slice.result.now c.vehicle.result c.vehicle-vehicle.result c.index-before.result.now c.size_of.result c.args.kept.now.unused.items c.as_mut_slice.result.now
    c.as_slice.ensures.value c.index-before.ensures (c.vehicle.ensures.number ∙ sym c.vehicle-vehicle.ensures.number) c.as_mut_slice.ensures.value c.requires.least

pub returns-in-Some-clause-least : goal.returns-in-Some-clause-least
returns-in-Some-clause-least c =
    let count : c.args.kept.now.unused.len ≡ length c.follow_use.new.unused = omega (arith, c.follow_use.auto.unused, c.as_mut_slice.ensures.len) in
    rw (written-back c.args.kept.now.unused.len c.follow_use.new.unused c.args.kept.now.unused.items count, ← c.as_slice.ensures.value) c.follow_use.ensures
