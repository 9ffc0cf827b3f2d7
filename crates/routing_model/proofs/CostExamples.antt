-- Examples of costs.
use Rattle.std.proofs.Common.{◌≡◌, ◌*◌, ◌^◌, [], ◌∷◌, refl, false}
use Rattle.problem_data.specs.declared.problem.Problem.{Problem}
use Rattle.problem_data.specs.declared.visit.Visit.TheVariants.{Client}
use Rattle.routing_model.specs.Cost.{solution_cost}
use Rattle.routing_model.specs.Lawful.{is_lawful}
use Rattle.routing_model.proofs.Examples.{three, tiny, weights, plain_problem, plain_client, plain_type}
use Rattle.routing_model.proofs.PlainCost.{solution_cost-easy}

-- each client alone
three_apart : solution_cost three weights ((Client 2 ∷ []) ∷ (Client 1 ∷ []) ∷ (Client 3 ∷ []) ∷ []) ≡ 34
three_apart = solution_cost-easy three weights ((Client 2 ∷ []) ∷ (Client 1 ∷ []) ∷ (Client 3 ∷ []) ∷ []) refl

three_together : solution_cost three weights ((Client 1 ∷ Client 2 ∷ Client 3 ∷ []) ∷ [] ∷ [] ∷ []) ≡ 20
three_together = solution_cost-easy three weights ((Client 1 ∷ Client 2 ∷ Client 3 ∷ []) ∷ [] ∷ [] ∷ []) refl

-- deliveries 7 and 8, capacity 10, a prize of 4 for the first client: it is left out, or both are in one vehicle
abbrev prized : Problem
prized = tiny (record (plain_client 7) { prize = 4 } ∷ plain_client 8 ∷ []) (plain_type 2 10)

one_left_out : solution_cost prized weights ((Client 2 ∷ []) ∷ [] ∷ []) ≡ 14
one_left_out = solution_cost-easy prized weights ((Client 2 ∷ []) ∷ [] ∷ []) refl

overloaded : solution_cost prized weights ((Client 1 ∷ Client 2 ∷ []) ∷ [] ∷ []) ≡ 113
overloaded = solution_cost-easy prized weights ((Client 1 ∷ Client 2 ∷ []) ∷ [] ∷ []) refl

nothing_served : is_lawful prized ([] ∷ [] ∷ []) ≡ false
nothing_served = refl

-- no deliveries, a fixed cost of 50: two vehicles, and one
abbrev fixed : Problem
fixed = tiny (plain_client 0 ∷ plain_client 0 ∷ []) (record (plain_type 2 10) { fixed = 50 })

two_vehicles : solution_cost fixed weights ((Client 1 ∷ []) ∷ (Client 2 ∷ []) ∷ []) ≡ 120
two_vehicles = solution_cost-easy fixed weights ((Client 1 ∷ []) ∷ (Client 2 ∷ []) ∷ []) refl

one_vehicle : solution_cost fixed weights ([] ∷ (Client 2 ∷ Client 1 ∷ []) ∷ []) ≡ 63
one_vehicle = solution_cost-easy fixed weights ([] ∷ (Client 2 ∷ Client 1 ∷ []) ∷ []) refl

-- the largest quantities
abbrev largest : Problem
largest = plain_problem (record (plain_client (10 ^ 12)) { prize = 0 } ∷ []) (record (plain_type 1 0) { fixed = 10 ^ 12; unit_distance = 10 ^ 6; max_distance = 0 } ∷ [])
    (0 ∷ 4 * 10 ^ 9 ∷
    4 * 10 ^ 9 ∷ 0 ∷ []) []

largest_cost : solution_cost largest (record { load = 10 ^ 9; warp = 10 ^ 9; distance = 10 ^ 9 }) ((Client 1 ∷ []) ∷ []) ≡ 1008008001000000000000
largest_cost = solution_cost-easy largest (record { load = 10 ^ 9; warp = 10 ^ 9; distance = 10 ^ 9 }) ((Client 1 ∷ []) ∷ []) refl
