-- Examples of bounds on legs.
use Rattle.std.proofs.Common.{◌≡◌, ℕ, ◌+◌, [], ◌∷◌, List, refl, ap, replicate, true, false}
use Rattle.std.specs.Prelude.{map, sum_by, filter, flat_map, Some, None, pos}
use Rattle.problem_data.specs.declared.problem.Problem.{Problem}
use Rattle.routing_model.specs.Cost.{solution_cost}
use Rattle.routing_model.specs.Routes.{Routes}
use Rattle.routing_model.proofs.Examples.{three, weights, plain_client, plain_problem, plain_type}
use Rattle.routing_model.proofs.PlainCost.{easy_plan_cost, is_easy_plan, solution_cost-easy}
use Rattle.search_model.specs.declared.candidate.Candidate.{Candidate}
use Rattle.search_model.specs.declared.candidate.Candidate.TheVariants.{Node, Solo, Routes as Pair}
use Rattle.search_model.specs.declared.candidate.Target.TheVariants.{After, Empty}
use Rattle.search_model.specs.declared.kind.Kind.TheVariants.{Exchange10, DepotBefore, Remove, SwapRoutes, SwapStar}
use Rattle.search_model.specs.Descent.{Try, is_taken, passes}
use Rattle.search_model.specs.Moves.{moved}
use Rattle.search_model.specs.Search.{route_passes}
use Rattle.search_model.proofs.MoveExamples.{lists, reloading, three_candidates}
use Rattle.search_model.proofs.SameCost.{passes-same}
use Rattle.gain_model.specs.declared.part.Part.TheVariants.{Run}
use Rattle.gain_model.specs.GainReads.{SeenView, gain_reads}
use Rattle.gain_model.specs.DescentReads.{changed_reads, descent_reads, prepare_reads, taken_reads}
use Rattle.gain_model.specs.MoveReads.{evaluate_reads}
use Rattle.gain_model.specs.RouteReads.{applied_reads, apply_reads, run_power, run_reads, set_reads}

one_visit : run_reads 1 ≡ 4
one_visit = refl

many_visits : run_reads 1000 ≡ 22
many_visits = refl

powers : map run_power (1 ∷ 2 ∷ 3 ∷ 4 ∷ 7 ∷ 8 ∷ []) ≡ 1 ∷ 2 ∷ 2 ∷ 3 ∷ 3 ∷ 4 ∷ []
powers = refl

longest : set_reads 2079 ≡ 33280
longest = refl

-- a vehicle with two clients and one with one
abbrev two_used : Routes
two_used = lists ((1 ∷ 2 ∷ []) ∷ (3 ∷ []) ∷ [] ∷ [])

-- within a list of two: 100, and four runs of up to three visits
within_list : evaluate_reads three two_used (Node Exchange10 1 (After 2)) ≡ 124
within_list = refl

to_unused : evaluate_reads three two_used (Node Exchange10 3 (Empty 0)) ≡ 124
to_unused = refl

alone : evaluate_reads three two_used (Solo Remove 3) ≡ 124
alone = refl

swapped : evaluate_reads three two_used (Pair SwapRoutes 0 1) ≡ 124
swapped = refl

star : evaluate_reads three two_used (Pair SwapStar 0 1) ≡ 124 + 64
star = refl

-- with one depot to choose from, twice as many
with_depot : evaluate_reads (reloading 10) (lists ((1 ∷ 2 ∷ []) ∷ [])) (Node DepotBefore 2 (After 1)) ≡ 248
with_depot = refl

-- vehicles of two profiles: twice the visits more
abbrev two_profiles : Problem
two_profiles = plain_problem (replicate 3 (plain_client 0)) (plain_type 1 0 ∷ record (plain_type 1 0) { profile = 1 } ∷ []) [] []

across : evaluate_reads two_profiles (lists ((1 ∷ 2 ∷ []) ∷ (3 ∷ []) ∷ [])) (Node Exchange10 1 (After 3)) ≡ 124 + 6
across = refl

prepared : prepare_reads three two_used SwapStar ≡ 54
prepared = refl

others_prepared : prepare_reads three two_used Exchange10 ≡ 0
others_prepared = refl

told : changed_reads three two_used SwapStar 0 ≡ 27
told = refl

applied : applied_reads two_used (0 ∷ 2 ∷ []) ≡ 48 + 16 + (16 + 16)
applied = refl

gain_applied : apply_reads two_used (record { first = record { vehicle = 2; parts = Run 0 0 2 ∷ [] }; second = None; amount = pos 0 }) ≡ 64
gain_applied = refl

taken : taken_reads three (record { candidate = Node Exchange10 3 (After 2); before = two_used; made = Some (lists ((1 ∷ 2 ∷ 3 ∷ []) ∷ [] ∷ [] ∷ [])) }) ≡ 64 + 16 + (16 + 16) + (36 + 9)
taken = refl

-- a client goes from a list of its own to the end of another list: one joint is left on the one side, and two are on the other
abbrev first_stop : SeenView
first_stop = record { visits = 0; starts = true; ends = false; profile = Some 0 }

abbrev last_stop : SeenView
last_stop = record { visits = 0; starts = false; ends = true; profile = Some 0 }

abbrev one_visit_more : SeenView
one_visit_more = record { visits = 1; starts = true; ends = false; profile = Some 0 }

abbrev a_client : SeenView
a_client = record { visits = 1; starts = false; ends = false; profile = None }

gain_of_two : gain_reads (record { profile = 0; views = first_stop ∷ last_stop ∷ [] } ∷ record { profile = 0; views = one_visit_more ∷ a_client ∷ last_stop ∷ [] } ∷ []) ≡ 3
gain_of_two = refl

-- without a view the two depots are joined; a client alone has a joint on each side
no_view : gain_reads (record { profile = 0; views = [] } ∷ []) ≡ 1
no_view = refl

client_alone : gain_reads (record { profile = 0; views = a_client ∷ [] } ∷ []) ≡ 2
client_alone = refl

-- a run of five visits that a route of another profile lends is driven anew
other_profile : gain_reads (record { profile = 1; views = record { visits = 5; starts = false; ends = false; profile = Some 0 } ∷ a_client ∷ [] } ∷ []) ≡ 3 + 5
other_profile = refl

-- a descent that takes nothing tries 219 candidates
abbrev order : List Candidate
order = three_candidates (2 ∷ 1 ∷ 3 ∷ [])

abbrev settled : Routes
settled = lists ((1 ∷ 2 ∷ 3 ∷ []) ∷ [] ∷ [] ∷ [])

abbrev Passes : Type 0
Passes = List (List (Try Routes Candidate))

passes-easy : route_passes three weights order settled ≡ passes (moved three weights) (easy_plan_cost three weights) order settled
passes-easy = passes-same (moved three weights) (solution_cost three weights) (easy_plan_cost three weights) (is_easy_plan three) (solution_cost-easy three weights) order settled refl refl

abbrev reads_of : Passes → ℕ
reads_of ps =
    let tries = flat_map (λ pass. pass) ps in
    prepare_reads three settled SwapStar + sum_by (λ (t : Try Routes Candidate). evaluate_reads three t.before t.candidate) tries
    + sum_by (taken_reads three) (filter is_taken tries)

descent : descent_reads three weights order settled ≡ 28930
descent = ap reads_of passes-easy
