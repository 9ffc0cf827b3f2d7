use Rattle.std.proofs.Common.{◌≡◌, ap, pos, subst, ◌∙◌, get_or, List, ℤ, to_z, of_z, w64}
use Rattle.routing_model.specs.Listed.{type_of_vehicle}
use Rattle.routing_model.specs.Routes.{list_at}
use Rattle.move_core.specs.Searches.{SearchState}
use Rattle.plan_tables.specs.Figures.{rest_of}
use Rattle.plan_tables.specs.Routes.{lists_of}
use Rattle.plan_tables.proofs.RouteFigures.{as-many, rest-read, rest-small, rest-there}
use Rattle.move_core.proofs.search.Search.rest.Goals as goal

pub returns-clause-rest : goal.returns-clause-rest
returns-clause-rest c =
    subst (λ (s : SearchState). to_z w64 (of_z w64 (get_or c.as_slice-rests.result.now c.args.vehicle (pos 0))) ≡ pos (rest_of s.problem s.weights (type_of_vehicle s.problem c.args.vehicle) (list_at s.routes c.args.vehicle))) c.self.view_is
    (rest-read (get_or c.as_slice-rests.result.now c.args.vehicle (pos 0)) (rest_of c.self.inside.given.now c.self.inside.weights (type_of_vehicle c.self.inside.given.now c.args.vehicle) (list_at (lists_of c.self.inside.routes.items) c.args.vehicle))
    (ap (λ (rests : List ℤ). get_or rests c.args.vehicle (pos 0)) (c.as_slice-rests.ensures.value ∙ c.self.invariant.plan.has_tables.has_figures.are_rests)
    ∙ rest-there c.self.inside.given.now c.self.inside.weights c.self.inside.routes.items c.self.invariant.plan.has_routes c.args.vehicle
    (as-many c.self.inside.given.now c.self.inside.routes.items c.args.vehicle c.self.invariant.plan.sound.one_list_each (rw (← c.self.view_is) at c.requires)) (pos 0))
    (rest-small c.self.inside.given.now c.self.inside.weights (type_of_vehicle c.self.inside.given.now c.args.vehicle) (list_at (lists_of c.self.inside.routes.items) c.args.vehicle)))
