-- Examples of moves, candidates and neighbours.
use Rattle.std.proofs.Common.{◌≡◌, ℕ, List, [], ◌∷◌, length, refl, replicate}
use Rattle.std.specs.Prelude.{None, Some}
use Rattle.problem_data.specs.declared.problem.Problem.{Problem}
use Rattle.problem_data.specs.declared.visit.Visit.{Visit}
use Rattle.problem_data.specs.declared.visit.Visit.TheVariants.{Client, Reload}
use Rattle.routing_model.specs.Routes.{Routes}
use Rattle.routing_model.proofs.Examples.{three, weights, plain_problem, plain_client, plain_type}
use Rattle.search_model.specs.declared.kind.Kind.TheVariants.{Exchange21, SwapTails, DepotBefore, DepotAfter, RemoveDepot, Insert, Replace, SwapRoutes, SwapStar}
use Rattle.search_model.specs.declared.candidate.Target.TheVariants.{After}
use Rattle.search_model.specs.declared.candidate.Candidate.{Candidate}
use Rattle.search_model.specs.declared.candidate.Candidate.TheVariants.{Node, Solo, Routes as Pair}
use Rattle.search_model.specs.Candidates.{candidates}
use Rattle.search_model.specs.Moves.{moved}
use Rattle.search_model.specs.Neighbours.{neighbours}

-- the lists of clients
abbrev pub visits : List ℕ → List Visit
visits [] = []
visits (place ∷ rest) = Client place ∷ visits rest

abbrev pub lists : List (List ℕ) → Routes
lists [] = []
lists (places ∷ rest) = visits places ∷ lists rest

abbrev pub three_lists : List (List ℕ)
three_lists = neighbours three 40 200 1000

three_neighbours : three_lists ≡ [] ∷ (3 ∷ 2 ∷ []) ∷ (1 ∷ 3 ∷ []) ∷ (1 ∷ 2 ∷ []) ∷ []
three_neighbours = refl

abbrev pub three_candidates : List ℕ → List Candidate
three_candidates order = candidates three three_lists order

three_count : length (three_candidates (1 ∷ 2 ∷ 3 ∷ [])) ≡ 219
three_count = refl

-- the depot at 0 and clients 1 to 4 on a line, at 1 to 4
abbrev pub line : Problem
line = plain_problem (replicate 4 (plain_client 0)) (plain_type 1 0 ∷ [])
    (0 ∷ 1 ∷ 2 ∷ 3 ∷ 4 ∷
    1 ∷ 0 ∷ 1 ∷ 2 ∷ 3 ∷
    2 ∷ 1 ∷ 0 ∷ 1 ∷ 2 ∷
    3 ∷ 2 ∷ 1 ∷ 0 ∷ 1 ∷
    4 ∷ 3 ∷ 2 ∷ 1 ∷ 0 ∷ []) []

pieces_exchanged : moved line weights (lists ((3 ∷ 1 ∷ 2 ∷ 4 ∷ []) ∷ [])) (Node Exchange21 1 (After 3)) ≡ Some (lists ((1 ∷ 2 ∷ 3 ∷ 4 ∷ []) ∷ []))
pieces_exchanged = refl

pieces_overlap : moved line weights (lists ((3 ∷ 1 ∷ 2 ∷ 4 ∷ []) ∷ [])) (Node Exchange21 1 (After 2)) ≡ None
pieces_overlap = refl

-- clients 1 and 2, at 4 and 1 on a line, form a group of which one is visited
abbrev pub grouped : Problem
grouped = plain_problem (record (plain_client 0) { group = Some 0 } ∷ record (plain_client 0) { group = Some 0 } ∷ []) (plain_type 2 0 ∷ [])
    (0 ∷ 4 ∷ 1 ∷
    4 ∷ 0 ∷ 3 ∷
    1 ∷ 3 ∷ 0 ∷ []) ((1 ∷ 2 ∷ []) ∷ [])

second_of_group : moved grouped weights (lists ((1 ∷ []) ∷ [] ∷ [])) (Node Insert 2 (After 1)) ≡ None
second_of_group = refl

group_replaced : moved grouped weights (lists ((1 ∷ []) ∷ [] ∷ [])) (Node Replace 2 (After 1)) ≡ Some (lists ((2 ∷ []) ∷ [] ∷ []))
group_replaced = refl

-- clients 1 to 4 at 1, 2, -1 and -2 on a line, two vehicles
abbrev pub sides : Problem
sides = plain_problem (replicate 4 (plain_client 0)) (plain_type 2 0 ∷ [])
    (0 ∷ 1 ∷ 2 ∷ 1 ∷ 2 ∷
    1 ∷ 0 ∷ 1 ∷ 2 ∷ 3 ∷
    2 ∷ 1 ∷ 0 ∷ 3 ∷ 4 ∷
    1 ∷ 2 ∷ 3 ∷ 0 ∷ 1 ∷
    2 ∷ 3 ∷ 4 ∷ 1 ∷ 0 ∷ []) []

abbrev pub crossed : Routes
crossed = lists ((1 ∷ 4 ∷ []) ∷ (3 ∷ 2 ∷ []) ∷ [])

tails_exchanged : moved sides weights crossed (Node SwapTails 1 (After 3)) ≡ Some (lists ((1 ∷ 2 ∷ []) ∷ (3 ∷ 4 ∷ []) ∷ []))
tails_exchanged = refl

star_chosen : moved sides weights crossed (Pair SwapStar 0 1) ≡ Some (lists ((3 ∷ 4 ∷ []) ∷ (1 ∷ 2 ∷ []) ∷ []))
star_chosen = refl

same_type : moved sides weights crossed (Pair SwapRoutes 0 1) ≡ None
same_type = refl

-- clients 1 and 2, at 1 and 2 on a line, one vehicle that may reload once
abbrev pub reloading : ℕ → Problem
reloading capacity = plain_problem (replicate 2 (plain_client 6)) (record (plain_type 1 capacity) { reloads = 1; reload_depots = 0 ∷ [] } ∷ [])
    (0 ∷ 1 ∷ 2 ∷
    1 ∷ 0 ∷ 1 ∷
    2 ∷ 1 ∷ 0 ∷ []) []

abbrev pub reloaded : Routes
reloaded = (Client 1 ∷ Reload 0 ∷ Client 2 ∷ []) ∷ []

reload_put : moved (reloading 10) weights (lists ((1 ∷ 2 ∷ []) ∷ [])) (Node DepotBefore 2 (After 1)) ≡ Some reloaded
reload_put = refl

reload_taken : moved (reloading 12) weights reloaded (Solo RemoveDepot 1) ≡ Some (lists ((1 ∷ 2 ∷ []) ∷ []))
reload_taken = refl

-- a reload that ends behind the last client is tidied away
reload_tidied : moved (reloading 10) weights (lists ((1 ∷ 2 ∷ []) ∷ [])) (Node DepotAfter 2 (After 1)) ≡ Some (lists ((1 ∷ 2 ∷ []) ∷ []))
reload_tidied = refl
