-- The routes that two parents exchange.
use Rattle.std.proofs.Common.{◌≡◌, ◌∙◌, ℕ, ◌<◌, ◌≤◌, List, All, IsTrue, length, ap, ap₂, arith, subst, sym}
use Rattle.problem_data.specs.declared.problem.Problem.{Problem}
use Rattle.problem_data.specs.Limits.{most_vehicles}
use Rattle.problem_data.specs.Places.{vehicle_count}
use Rattle.problem_data.proofs.VehicleNumbers.{vehicle_count_limit}
use Rattle.routing_model.specs.Lawful.{is_lawful}
use Rattle.routing_model.specs.Listed.{IsListed}
use Rattle.routing_model.specs.Routes.{Routes, clients_of_vehicles}
use Rattle.routing_model.proofs.LawfulFacts.{lawful-facts}
use Rattle.route_cache.proofs.LawfulLists.{lawful-listed}
use Rattle.genetic_model.specs.declared.starts.Starts.{Starts}
use Rattle.genetic_model.specs.RouteChildren.{Exchange}
use Rattle.genetic_model.specs.RouteExchange.{exchange_from, selection_difference}
use Rattle.genetic_model.specs.RouteOrder.{route_order}
use Rattle.genetic_model.specs.RouteSelection.{around, difference_count, settled}
use Rattle.route_rings.specs.declared.ring.Ring.{Ring}
use Rattle.route_rings.specs.declared.selection.Rings.{Rings}
use Rattle.route_rings.specs.Rings.{IsRing}
use Rattle.route_rings.specs.Selections.{difference_of}
use Rattle.srex.specs.inside.Parents.{AreParents}
use Rattle.srex.proofs.Orders.{order-few, order-inside}

-- a lawful plan of few vehicles, with its order
pub ring-is : (p : Problem) (ring : Ring) → IsTrue (is_lawful p ring.routes.now) → All (IsListed p) ring.routes.now → vehicle_count p ≤ most_vehicles → ring.order.now ≡ route_order p ring.routes.now → IsRing p ring
ring-is p ring lawful listed few order = record {
  listed = listed;
  order = subst (All (λ v. v < length ring.routes.now)) (sym order) (order-inside p ring.routes.now);
  few = let same = ap length order in let small = order-few p ring.routes.now in let each = (lawful-facts p ring.routes.now lawful).one_list_each in omega arith;
}

-- where the selected routes begin
pub starts-are : (p : Problem) (rings : Rings) (s : Starts) → rings.first.order.now ≡ route_order p rings.first.routes.now → rings.second.order.now ≡ route_order p rings.second.routes.now →
    settled (difference_of p rings) (length rings.first.order.now) (length rings.second.order.now) s
    ≡ settled (selection_difference p rings.first.routes.now rings.second.routes.now rings.count) (length (route_order p rings.first.routes.now)) (length (route_order p rings.second.routes.now)) s
starts-are p rings s e k =
    ap₂ (λ (ra rb : List ℕ).
    settled (λ (t : Starts). difference_count p (clients_of_vehicles rings.first.routes.now (around ra t.first rings.count)) (clients_of_vehicles rings.second.routes.now (around rb t.second rings.count)))
    (length ra) (length rb) s) e k

-- an exchange of these vehicles
abbrev pub exchange_with : List ℕ → List ℕ → Exchange
exchange_with into from = record { into = into; from = from }

-- the selected routes, from settled starts on, are those of the exchange
pub exchange-is : (p : Problem) (rings : Rings) (s t : Starts) (into from : List ℕ) → AreParents p rings.first rings.second →
    t ≡ settled (difference_of p rings) (length rings.first.order.now) (length rings.second.order.now) s →
    into ≡ around rings.first.order.now t.first rings.count → from ≡ around rings.second.order.now t.second rings.count →
    exchange_with into from ≡ exchange_from p rings.first.routes.now rings.second.routes.now rings.count s
exchange-is p rings s t into from are begins into_is from_is =
    let a : Routes = rings.first.routes.now in
    let b : Routes = rings.second.routes.now in
    let u : Starts = settled (selection_difference p a b rings.count) (length (route_order p a)) (length (route_order p b)) s in
    let starts : t ≡ u = begins ∙ starts-are p rings s are.first_order are.second_order in
    ap₂ (λ (xs ys : List ℕ). exchange_with xs ys)
    (into_is ∙ ap₂ (λ (order : List ℕ) (k : Starts). around order k.first rings.count) are.first_order starts)
    (from_is ∙ ap₂ (λ (order : List ℕ) (k : Starts). around order k.second rings.count) are.second_order starts)

-- each parent's vehicles are in an order
pub first-ring : (p : Problem) (first second : Ring) → AreParents p first second → IsRing p first
first-ring p first second are =
    ring-is p first are.first (lawful-listed p first.routes.now are.valid are.first) (vehicle_count_limit p are.valid) are.first_order

pub second-ring : (p : Problem) (first second : Ring) → AreParents p first second → IsRing p second
second-ring p first second are =
    ring-is p second are.second (lawful-listed p second.routes.now are.valid are.second) (vehicle_count_limit p are.valid) are.second_order
