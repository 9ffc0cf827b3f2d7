-- Selections of neighbouring vehicles of two plans.
use Rattle.std.specs.Prelude.{ℕ, ◌<◌, length}
use Rattle.problem_data.specs.declared.problem.Problem.{Problem}
use Rattle.routing_model.specs.Routes.{clients_of_vehicles}
use Rattle.genetic_model.specs.declared.starts.Starts.{Starts}
use Rattle.genetic_model.specs.RouteSelection.{around, difference_count}
use Rattle.route_rings.specs.declared.selection.Rings.{Rings}
use Rattle.route_rings.specs.Rings.{IsRing}

-- both are orders of a problem's plans
pub record AreRings (p : Problem) (rings : Rings) : Type 0 where
  pub first : IsRing p rings.first
  pub second : IsRing p rings.second

-- starts are places of the orders
pub record AreStarts (rings : Rings) (starts : Starts) : Type 0 where
  pub first : starts.first < length rings.first.order.now
  pub second : starts.second < length rings.second.order.now

-- how many clients are in just one of the two selections that begin there
abbrev pub difference_of : Problem → Rings → Starts → ℕ
difference_of p rings starts =
    difference_count p (clients_of_vehicles rings.first.routes.now (around rings.first.order.now starts.first rings.count))
    (clients_of_vehicles rings.second.routes.now (around rings.second.order.now starts.second rings.count))
