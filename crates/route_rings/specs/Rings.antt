-- Plans' used vehicles in an order.
use Rattle.std.specs.Prelude.{◌<◌, ◌^◌, All, length}
use Rattle.problem_data.specs.declared.problem.Problem.{Problem}
use Rattle.routing_model.specs.Listed.{IsListed}
use Rattle.route_rings.specs.declared.ring.Ring.{Ring}

-- the lists are ones that vehicles can have, and the order has numbers of them
pub record IsRing (p : Problem) (ring : Ring) : Type 0 where
  pub listed : All (IsListed p) ring.routes.now
  pub order : All (λ vehicle. vehicle < length ring.routes.now) ring.order.now
  pub few : length ring.order.now < 2 ^ 31
