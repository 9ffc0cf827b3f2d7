-- What vehicles cost together where one list is replaced.
use Rattle.std.proofs.Common.{◌≡◌, ℕ, zero, suc, ◌+◌, ◌<◌, List, [], ◌∷◌, length, get_or, set, ap, arith}
use Rattle.std.specs.Prelude.{sum_by, zip}
use Rattle.std.proofs.lemmas.List.{get_or-map, length-map}
use Rattle.std.proofs.lemmas.List.Sums.{sum_by-cons}
use Rattle.problem_data.specs.declared.problem.Problem.{Problem}
use Rattle.problem_data.specs.declared.problem.VehicleType.{VehicleType}
use Rattle.problem_data.specs.declared.visit.Visit.{Visit}
use Rattle.problem_data.specs.Places.{fleet, type_at, types_of_vehicles, vehicle_count}
use Rattle.routing_model.specs.declared.weights.Weights.{Weights}
use Rattle.routing_model.specs.Cost.{route_cost}
use Rattle.routing_model.specs.Listed.{type_of_vehicle}
use Rattle.routing_model.specs.Routes.{Routes}
use Rattle.penalty_cost.specs.inside.Totals.{vehicles_cost}

-- the costs of vehicles of these types
abbrev costs_of : Problem → Weights → List VehicleType → Routes → ℕ
costs_of p w types routes = sum_by (λ (v : VehicleType × List Visit). route_cost p w v.0 v.1) (zip types routes)

module _ (p : Problem) (w : Weights) where
  costs-cons : (t : VehicleType) (types : List VehicleType) (visits : List Visit) (routes : Routes) → costs_of p w (t ∷ types) (visits ∷ routes) ≡ route_cost p w t visits + costs_of p w types routes
  costs-cons t types visits routes = sum_by-cons (λ (v : VehicleType × List Visit). route_cost p w v.0 v.1) (t, visits) (zip types routes)

  costs-set : (types : List VehicleType) (routes : Routes) (i : ℕ) (xs : List Visit) (none : VehicleType) → i < length types → i < length routes →
      costs_of p w types (set routes i xs) + route_cost p w (get_or types i none) (get_or routes i []) ≡ costs_of p w types routes + route_cost p w (get_or types i none) xs
  costs-set [] routes i xs none in_types in_routes = absurd (omega arith)
  costs-set (t ∷ types) [] i xs none in_types in_routes = absurd (omega arith)
  costs-set (t ∷ types) (visits ∷ routes) zero xs none in_types in_routes =
      let before = costs-cons t types visits routes in
      let after = costs-cons t types xs routes in
      omega arith
  costs-set (t ∷ types) (visits ∷ routes) (suc i) xs none in_types in_routes =
      let before = costs-cons t types visits routes in
      let after = costs-cons t types visits (set routes i xs) in
      let rest = costs-set types routes i xs none (omega arith) (omega arith) in
      omega arith

  -- the old list's cost and the new one's
  pub costs-changed : (routes : Routes) (i : ℕ) (old xs : List Visit) → i < vehicle_count p → i < length routes → get_or routes i [] ≡ old →
      vehicles_cost p w (set routes i xs) + route_cost p w (type_of_vehicle p i) old ≡ vehicles_cost p w routes + route_cost p w (type_of_vehicle p i) xs
  costs-changed routes i old xs in_fleet inside is_old =
      let count : length (fleet p) ≡ vehicle_count p = length-map (types_of_vehicles p) (type_at p) in
      let here : get_or (fleet p) i (type_at p 0) ≡ type_of_vehicle p i = get_or-map (type_at p) (types_of_vehicles p) i 0 (type_at p 0) in_fleet in
      let changed = costs-set (fleet p) routes i xs (type_at p 0) (omega arith) inside in
      let was : route_cost p w (get_or (fleet p) i (type_at p 0)) (get_or routes i []) ≡ route_cost p w (type_of_vehicle p i) old = λ k. route_cost p w (here k) (is_old k) in
      let is : route_cost p w (get_or (fleet p) i (type_at p 0)) xs ≡ route_cost p w (type_of_vehicle p i) xs = ap (λ (t : VehicleType). route_cost p w t xs) here in
      omega arith
