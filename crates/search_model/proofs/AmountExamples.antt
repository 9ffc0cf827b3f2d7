-- What some moves change of the cost.
use Rattle.std.proofs.Common.{◌≡◌, [], ◌∷◌, refl}
use Rattle.std.specs.Prelude.{None, Some}
use Rattle.problem_data.specs.declared.problem.Problem.{Problem}
use Rattle.routing_model.specs.Cost.{solution_cost}
use Rattle.routing_model.proofs.Examples.{tiny, weights, plain_client, plain_type}
use Rattle.routing_model.proofs.PlainCost.{easy_plan_cost, solution_cost-easy}
use Rattle.search_model.specs.declared.kind.Kind.TheVariants.{Exchange10, SwapTails}
use Rattle.search_model.specs.declared.candidate.Target.TheVariants.{After}
use Rattle.search_model.specs.declared.candidate.Candidate.TheVariants.{Node}
use Rattle.search_model.specs.Descent.{improved}
use Rattle.search_model.specs.Moves.{moved}
use Rattle.search_model.proofs.MoveExamples.{lists, line, grouped, sides, crossed, reloading, reloaded}

-- no deliveries, a fixed cost of 50: the first vehicle becomes unused, from 120 to 63
abbrev fixed : Problem
fixed = tiny (plain_client 0 ∷ plain_client 0 ∷ []) (record (plain_type 2 10) { fixed = 50 })

vehicle_saved : moved fixed weights (lists ((1 ∷ []) ∷ (2 ∷ []) ∷ [])) (Node Exchange10 1 (After 2)) ≡ Some (lists ([] ∷ (2 ∷ 1 ∷ []) ∷ []))
vehicle_saved = refl

before_saving : solution_cost fixed weights (lists ((1 ∷ []) ∷ (2 ∷ []) ∷ [])) ≡ 120
before_saving = solution_cost-easy fixed weights (lists ((1 ∷ []) ∷ (2 ∷ []) ∷ [])) refl

after_saving : solution_cost fixed weights (lists ([] ∷ (2 ∷ 1 ∷ []) ∷ [])) ≡ 63
after_saving = solution_cost-easy fixed weights (lists ([] ∷ (2 ∷ 1 ∷ []) ∷ [])) refl

-- pieces exchanged: from 12 to 8
before_exchange : solution_cost line weights (lists ((3 ∷ 1 ∷ 2 ∷ 4 ∷ []) ∷ [])) ≡ 12
before_exchange = solution_cost-easy line weights (lists ((3 ∷ 1 ∷ 2 ∷ 4 ∷ []) ∷ [])) refl

after_exchange : solution_cost line weights (lists ((1 ∷ 2 ∷ 3 ∷ 4 ∷ []) ∷ [])) ≡ 8
after_exchange = solution_cost-easy line weights (lists ((1 ∷ 2 ∷ 3 ∷ 4 ∷ []) ∷ [])) refl

-- a client of a group replaced by a nearer one: from 8 to 2
before_replacing : solution_cost grouped weights (lists ((1 ∷ []) ∷ [] ∷ [])) ≡ 8
before_replacing = solution_cost-easy grouped weights (lists ((1 ∷ []) ∷ [] ∷ [])) refl

after_replacing : solution_cost grouped weights (lists ((2 ∷ []) ∷ [] ∷ [])) ≡ 2
after_replacing = solution_cost-easy grouped weights (lists ((2 ∷ []) ∷ [] ∷ [])) refl

-- lists that cross, and lists that don't: 12 and 8
crossed_cost : solution_cost sides weights crossed ≡ 12
crossed_cost = solution_cost-easy sides weights crossed refl

uncrossed_cost : solution_cost sides weights (lists ((1 ∷ 2 ∷ []) ∷ (3 ∷ 4 ∷ []) ∷ [])) ≡ 8
uncrossed_cost = solution_cost-easy sides weights (lists ((1 ∷ 2 ∷ []) ∷ (3 ∷ 4 ∷ []) ∷ [])) refl

-- to cross them isn't taken
not_crossed : improved (moved sides weights) (easy_plan_cost sides weights) (lists ((1 ∷ 2 ∷ []) ∷ (3 ∷ 4 ∷ []) ∷ [])) (Node SwapTails 1 (After 3)) ≡ None
not_crossed = refl

-- an excess load of 2 and a way of 4, or a reload and a way of 6; and with room for both, a way of 4
overloaded : solution_cost (reloading 10) weights (lists ((1 ∷ 2 ∷ []) ∷ [])) ≡ 44
overloaded = solution_cost-easy (reloading 10) weights (lists ((1 ∷ 2 ∷ []) ∷ [])) refl

with_reload : solution_cost (reloading 10) weights reloaded ≡ 6
with_reload = solution_cost-easy (reloading 10) weights reloaded refl

roomy : solution_cost (reloading 12) weights (lists ((1 ∷ 2 ∷ []) ∷ [])) ≡ 4
roomy = solution_cost-easy (reloading 12) weights (lists ((1 ∷ 2 ∷ []) ∷ [])) refl
