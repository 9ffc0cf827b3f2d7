-- What the routes of a search say of each vehicle.
use Rattle.std.proofs.Common.{◌≡◌, ℕ, zero, suc, ◌<◌, ◌≤◌, ℤ, pos, List, [], ◌∷◌, length, map, get_or, set, refl, sym, w64, to_z, of_z, ◌∙◌, ap, arith}
use Rattle.std.proofs.lemmas.List.{get_or-map, length-map, map-set}
use Rattle.std.proofs.lemmas.Int.{ints}
use Rattle.problem_data.specs.Places.{vehicle_count}
use Rattle.problem_data.specs.declared.problem.Problem.{Problem}
use Rattle.problem_data.specs.declared.problem.VehicleType.{VehicleType}
use Rattle.problem_data.specs.declared.visit.Visit.{Visit}
use Rattle.routing_model.specs.declared.weights.Weights.{Weights}
use Rattle.routing_model.specs.Cost.{route_cost}
use Rattle.routing_model.specs.Listed.{type_of_vehicle}
use Rattle.routing_model.specs.Routes.{list_at}
use Rattle.route_cache.specs.Routes.{RouteState}
use Rattle.plan_tables.specs.Figures.{AreFigures, cost_in, largest_rest, rest_in, rest_of, size_in}
use Rattle.plan_tables.specs.Routes.{AreRoutes, lists_of}

-- a small number is read as it was written
pub rest-read : (z : ℤ) (n : ℕ) → z ≡ pos n → n ≤ largest_rest → to_z w64 (of_z w64 z) ≡ pos n
rest-read z n e h = omega (arith, ints)

pub rest-small : (p : Problem) (w : Weights) (t : VehicleType) (visits : List Visit) → rest_of p w t visits ≤ largest_rest
rest-small p w t visits = omega arith

-- the list of a vehicle is that of its route
pub list-there : (states : List RouteState) (v : ℕ) (none : RouteState) → v < length states → (get_or states v none).visits ≡ list_at (lists_of states) v
list-there [] v none h = absurd (omega (arith, h))
list-there (x ∷ states) zero none h = refl
list-there (x ∷ states) (suc v) none h = list-there states v none (omega (arith, h))

pub list-gone : (states : List RouteState) (v : ℕ) → length states ≤ v → list_at (lists_of states) v ≡ []
list-gone [] v h = refl
list-gone (x ∷ states) zero h = absurd (omega (arith, h))
list-gone (x ∷ states) (suc v) h = list-gone states v (omega (arith, h))

state_is : (state : RouteState) (p : Problem) (v : ℕ) (visits : List Visit) → state.problem ≡ p → state.vehicle ≡ v → state.visits ≡ visits → state ≡ record { problem = p; vehicle = v; visits = visits }
state_is state p v visits a b c = λ i. record { problem = a i; vehicle = b i; visits = c i }

module _ (p : Problem) (w : Weights) (states : List RouteState) (are : AreRoutes p states) (v : ℕ) (there : v < length states) where
  -- for looking up
  abbrev some : RouteState
  some = record { problem = p; vehicle = 0; visits = [] }

  pub route-there : get_or states v some ≡ record { problem = p; vehicle = v; visits = list_at (lists_of states) v }
  route-there = state_is (get_or states v some) p v (list_at (lists_of states) v) (are.problems v some there) (are.vehicles v some there) (list-there states v some there)

  pub cost-there : (none : ℕ) → get_or (map (cost_in w) states) v none ≡ route_cost p w (type_of_vehicle p v) (list_at (lists_of states) v)
  cost-there none = get_or-map (cost_in w) states v some none there ∙ ap (cost_in w) route-there

  pub rest-there : (none : ℤ) → get_or (map (rest_in w) states) v none ≡ pos (rest_of p w (type_of_vehicle p v) (list_at (lists_of states) v))
  rest-there none = get_or-map (rest_in w) states v some none there ∙ ap (rest_in w) route-there

  pub size-there : (none : ℕ) → get_or (map size_in states) v none ≡ length (list_at (lists_of states) v)
  size-there none = get_or-map size_in states v some none there ∙ ap size_in route-there

-- there are as many routes as vehicles
pub as-many : (p : Problem) (states : List RouteState) (v : ℕ) → length (lists_of states) ≡ vehicle_count p → v < vehicle_count p → v < length states
as-many p states v count h = omega (arith, length-map states (λ (state : RouteState). state.visits), count)

pub sized : (states : List RouteState) (sizes : List ℕ) (v : ℕ) → sizes ≡ map size_in states → v < length sizes → v < length states
sized states sizes v e h = omega (arith, length-map states size_in, ap length e)

-- a route in its vehicle's place, with its figures
pub figures_set : (w : Weights) (states : List RouteState) (v : ℕ) (state : RouteState) (sizes : List ℕ) (rests : List ℤ) (costs : List ℕ) (size : ℕ) (rest : ℤ) (cost : ℕ) → AreFigures w states sizes rests costs →
    size ≡ size_in state → rest ≡ rest_in w state → cost ≡ cost_in w state → AreFigures w (set states v state) (set sizes v size) (set rests v rest) (set costs v cost)
figures_set w states v state sizes rests costs size rest cost are a b c = record {
  are_sizes = (λ i. set (are.are_sizes i) v (a i)) ∙ sym (map-set size_in states v state);
  are_rests = (λ i. set (are.are_rests i) v (b i)) ∙ sym (map-set (rest_in w) states v state);
  are_costs = (λ i. set (are.are_costs i) v (c i)) ∙ sym (map-set (cost_in w) states v state);
}
