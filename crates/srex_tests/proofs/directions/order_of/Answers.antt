use Rattle.std.proofs.Common.{All, subst, sym}
use Rattle.routing_model.specs.Listed.{IsListed}
use Rattle.route_cache.proofs.LawfulLists.{lawful-listed}
use Rattle.srex_tests.proofs.directions.order_of.Goals as goal

pub route_order-requires-clause-listed : goal.route_order-requires-clause-listed
route_order-requires-clause-listed c =
    subst (All (IsListed c.args.given.now)) (sym c.items.ensures) (lawful-listed c.args.given.now c.args.plan.now.routes c.validity.ensures c.requires)
