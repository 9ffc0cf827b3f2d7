use Rattle.std.proofs.Common.{◌≡◌, ap, subst, ◌∙◌, get_or, List, ℕ}
use Rattle.routing_model.specs.Cost.{route_cost}
use Rattle.routing_model.specs.Listed.{type_of_vehicle}
use Rattle.routing_model.specs.Routes.{list_at}
use Rattle.move_core.specs.Searches.{SearchState}
use Rattle.plan_tables.proofs.RouteFigures.{as-many, cost-there}
use Rattle.move_core.proofs.search.Search.cost_of.Goals as goal

pub returns-clause-cost : goal.returns-clause-cost
returns-clause-cost c =
    subst (λ (s : SearchState). get_or c.as_slice-costs.result.now c.args.vehicle 0 ≡ route_cost s.problem s.weights (type_of_vehicle s.problem c.args.vehicle) (list_at s.routes c.args.vehicle)) c.self.view_is
    (ap (λ (costs : List ℕ). get_or costs c.args.vehicle 0) (c.as_slice-costs.ensures.value ∙ c.self.invariant.plan.has_tables.has_figures.are_costs)
    ∙ cost-there c.self.inside.given.now c.self.inside.weights c.self.inside.routes.items c.self.invariant.plan.has_routes c.args.vehicle
    (as-many c.self.inside.given.now c.self.inside.routes.items c.args.vehicle c.self.invariant.plan.sound.one_list_each (rw (← c.self.view_is) at c.requires)) 0)
