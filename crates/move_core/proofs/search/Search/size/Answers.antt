use Rattle.std.proofs.Common.{ap, ◌∙◌, get_or, List, ℕ}
use Rattle.plan_tables.proofs.RouteFigures.{sized, size-there}
use Rattle.move_core.proofs.search.Search.size.Goals as goal

pub returns-clause-size : goal.returns-clause-size
returns-clause-size c =
    rw (← c.self.view_is)
    (ap (λ (sizes : List ℕ). get_or sizes c.args.vehicle 0) (c.as_slice-sizes.ensures.value ∙ c.self.invariant.plan.has_tables.has_figures.are_sizes)
    ∙ size-there c.self.inside.given.now c.self.inside.weights c.self.inside.routes.items c.self.invariant.plan.has_routes c.args.vehicle
    (sized c.self.inside.routes.items c.as_slice-sizes.result.now c.args.vehicle (c.as_slice-sizes.ensures.value ∙ c.self.invariant.plan.has_tables.has_figures.are_sizes) c.if-vehicle-sizes.false) 0)
