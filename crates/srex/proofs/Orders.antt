-- The order of a plan's used vehicles, and some of them, going round.
use Rattle.std.proofs.Common.{ℕ, ◌%◌, ◌<◌, ◌≤◌, List, All, length, get_or, arith}
use Rattle.std.specs.List.{range_with_len}
use Rattle.std.proofs.Math.Nat.{mod-lt}
use Rattle.std.proofs.lemmas.List.Elements.{All-filter, All-map}
use Rattle.std.proofs.lemmas.List.FromFn.{length-range_with_len}
use Rattle.std.proofs.lemmas.List.Sorted.{All-permutation, length_permutation}
use Rattle.std.proofs.lemmas.List.Sums.{count_by-le-length, length-filter}
use Rattle.std.specs.List.Sorted.{IsPermutation}
use Rattle.list_words.specs.Lists.{places_of}
use Rattle.problem_data.specs.declared.problem.Problem.{Problem}
use Rattle.routing_model.specs.Routes.{Routes, is_used, list_at, used_numbers}
use Rattle.random_model.proofs.RandomOrders.{All-range, sorted_moves}
use Rattle.genetic_model.specs.RouteOrder.{route_order, route_vector, turns_before}
use Rattle.genetic_model.specs.RouteSelection.{around}

module _ (p : Problem) (routes : Routes) where
  sorted : IsPermutation (used_numbers routes) (route_order p routes)
  sorted = sorted_moves (λ u v. turns_before (route_vector p (list_at routes u)) (route_vector p (list_at routes v))) (used_numbers routes)

  -- it has numbers of vehicles
  pub order-inside : All (λ v. v < length routes) (route_order p routes)
  order-inside =
      All-permutation (λ v. v < length routes) (used_numbers routes) (route_order p routes) sorted
      (All-filter (λ v. is_used (list_at routes v)) (λ v. v < length routes) (places_of routes) (All-range (λ v. v < length routes) 0 (length routes) (λ v l u. omega arith)))

  -- and no more than there are
  pub order-few : length (route_order p routes) ≤ length routes
  order-few =
      let same = length_permutation (used_numbers routes) (route_order p routes) sorted in
      let count = length-filter (λ v. is_used (list_at routes v)) (places_of routes) in
      let few = count_by-le-length (λ v. is_used (list_at routes v)) (places_of routes) in
      let all = length-range_with_len 0 (length routes) in
      omega arith

-- what holds of each number of an order holds of some of them, going round
pub All-around : (P : ℕ → Type 0) (order : List ℕ) (start m : ℕ) → 0 < length order → All P order → All P (around order start m)
All-around P order start m some all =
    All-map P (λ i. get_or order (i % length order) 0) (range_with_len start m)
    (All-range (λ i. P (get_or order (i % length order) 0)) start m (λ i l u. all (i % length order) 0 (mod-lt i some)))
