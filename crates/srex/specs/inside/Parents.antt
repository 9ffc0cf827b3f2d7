-- The parents of an exchange.
use Rattle.std.specs.Prelude.{◌≡◌, IsTrue}
use Rattle.problem_data.specs.declared.problem.Problem.{Problem}
use Rattle.problem_data.specs.Valid.{IsValid}
use Rattle.routing_model.specs.Lawful.{is_lawful}
use Rattle.genetic_model.specs.RouteOrder.{route_order}
use Rattle.route_rings.specs.declared.ring.Ring.{Ring}

-- two lawful plans of a valid problem, each with its used vehicles in their order
pub record AreParents (p : Problem) (ring other : Ring) : Type 0 where
  pub valid : IsValid p
  pub first : IsTrue (is_lawful p ring.routes.now)
  pub second : IsTrue (is_lawful p other.routes.now)
  pub first_order : ring.order.now ≡ route_order p ring.routes.now
  pub second_order : other.order.now ≡ route_order p other.routes.now
