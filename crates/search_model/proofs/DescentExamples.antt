-- Examples of the descent. They are computed by the cost of easy plans, which is the cost of each plan that is met.
use Rattle.std.proofs.Common.{◌≡◌, ℕ, ◌*◌, suc, List, [], ◌∷◌, length, refl, ap, true}
use Rattle.std.specs.Prelude.{Some, map, flat_map, filter}
use Rattle.problem_data.specs.declared.problem.Problem.{Problem}
use Rattle.problem_data.specs.declared.problem.Client.{Client as ClientData}
use Rattle.routing_model.specs.declared.weights.Weights.{Weights}
use Rattle.routing_model.specs.Routes.{Routes}
use Rattle.routing_model.specs.Cost.{solution_cost}
use Rattle.routing_model.proofs.Examples.{three, weights, plain_problem, plain_client, plain_type}
use Rattle.routing_model.proofs.PlainCost.{easy_plan_cost, is_easy_plan, solution_cost-easy}
use Rattle.search_model.specs.declared.kind.Kind.TheVariants.{Exchange10}
use Rattle.search_model.specs.declared.candidate.Candidate.{Candidate}
use Rattle.search_model.specs.Candidates.{candidates}
use Rattle.search_model.specs.Descent.{Try, after, after_all, passes, is_taken}
use Rattle.search_model.specs.Moves.{moved}
use Rattle.search_model.specs.Neighbours.{neighbours}
use Rattle.search_model.specs.Search.{of_kinds, route_passes, route_tries, descended}
use Rattle.search_model.specs.Skipping.{needed_count}
use Rattle.search_model.proofs.MoveExamples.{lists, three_candidates}
use Rattle.search_model.proofs.SameCost.{passes_ok, passes-same}

-- the passes by the cost of easy plans
abbrev easy_passes : Problem → Weights → List Candidate → Routes → List (List (Try Routes Candidate))
easy_passes p w cs routes = passes (moved p w) (easy_plan_cost p w) cs routes

route_passes-easy : (p : Problem) (w : Weights) (cs : List Candidate) (routes : Routes) → is_easy_plan p routes ≡ true →
    passes_ok (moved p w) (solution_cost p w) (easy_plan_cost p w) (is_easy_plan p) (solution_cost-easy p w) (suc (easy_plan_cost p w routes)) cs routes ≡ true →
    route_passes p w cs routes ≡ easy_passes p w cs routes
route_passes-easy p w cs routes h k = passes-same (moved p w) (solution_cost p w) (easy_plan_cost p w) (is_easy_plan p) (solution_cost-easy p w) cs routes h k

-- the routes that some passes end with, and what each of their moves makes
abbrev ended : Routes → List (List (Try Routes Candidate)) → Routes
ended routes ps = after_all routes (flat_map (λ tries. tries) ps)

abbrev made : List (List (Try Routes Candidate)) → List Routes
made ps = map after (filter is_taken (flat_map (λ tries. tries) ps))

abbrev first_routes : Routes
first_routes = lists ((2 ∷ []) ∷ (1 ∷ []) ∷ (3 ∷ []) ∷ [])

abbrev last_routes : Routes
last_routes = lists ((1 ∷ 2 ∷ 3 ∷ []) ∷ [] ∷ [] ∷ [])

abbrev order : List ℕ
order = 2 ∷ 1 ∷ 3 ∷ []

-- one kind alone: three moves, to the costs 24, 21 and 20, in the first of two passes
abbrev first_kind : List Candidate
first_kind = of_kinds (Exchange10 ∷ []) (three_candidates order)

one_kind_moves : map (easy_plan_cost three weights) (made (easy_passes three weights first_kind first_routes)) ≡ 24 ∷ 21 ∷ 20 ∷ []
one_kind_moves = refl

one_kind_passes : length (route_passes three weights first_kind first_routes) ≡ 2
one_kind_passes = ap length (route_passes-easy three weights first_kind first_routes refl refl)

one_kind : descended three weights first_kind first_routes ≡ lists ([] ∷ (1 ∷ 2 ∷ 3 ∷ []) ∷ [] ∷ [])
one_kind = ap (ended first_routes) (route_passes-easy three weights first_kind first_routes refl refl)

-- all kinds: each of the 219 candidates is tried once, and nothing is taken
settled_tries : length (route_tries three weights (three_candidates order) last_routes) ≡ 219
settled_tries = ap (λ (ps : List (List (Try Routes Candidate))). length (flat_map (λ tries. tries) ps)) (route_passes-easy three weights (three_candidates order) last_routes refl refl)

settled : descended three weights (three_candidates order) last_routes ≡ last_routes
settled = ap (ended last_routes) (route_passes-easy three weights (three_candidates order) last_routes refl refl)

-- all kinds from the first routes
all_kinds_cost : easy_plan_cost three weights (ended first_routes (easy_passes three weights (three_candidates order) first_routes)) ≡ 20
all_kinds_cost = refl

-- clients at (100,0), (0,10) and (0,11); the first two form a group, with prizes of 9; three vehicles
abbrev prized : ClientData
prized = record (plain_client 0) { prize = 9; group = Some 0 }

abbrev far_group : Problem
far_group = plain_problem (prized ∷ prized ∷ plain_client 0 ∷ []) (plain_type 3 0 ∷ [])
    (0 ∷ 100 ∷ 10 ∷ 11 ∷
    100 ∷ 0 ∷ 100 ∷ 101 ∷
    10 ∷ 100 ∷ 0 ∷ 1 ∷
    11 ∷ 101 ∷ 1 ∷ 0 ∷ []) ((1 ∷ 2 ∷ []) ∷ [])

abbrev group_routes : Routes
group_routes = lists ((1 ∷ []) ∷ (3 ∷ []) ∷ [] ∷ [])

abbrev group_candidates : List Candidate
group_candidates = candidates far_group (neighbours far_group 1 200 1000) order

group_moves : map (easy_plan_cost far_group weights) (group_routes ∷ made (easy_passes far_group weights group_candidates group_routes)) ≡ 231 ∷ 40 ∷ 31 ∷ []
group_moves = refl

group_descent : descended far_group weights group_candidates group_routes ≡ lists ([] ∷ (3 ∷ 2 ∷ []) ∷ [] ∷ [])
group_descent = ap (ended group_routes) (route_passes-easy far_group weights group_candidates group_routes refl refl)

-- three passes over 135 candidates; 287 of these tries are needed
group_tries : length (route_tries far_group weights group_candidates group_routes) ≡ 3 * 135
group_tries = ap (λ (ps : List (List (Try Routes Candidate))). length (flat_map (λ tries. tries) ps)) (route_passes-easy far_group weights group_candidates group_routes refl refl)

group_needed : needed_count far_group (easy_passes far_group weights group_candidates group_routes) ≡ 287
group_needed = refl
