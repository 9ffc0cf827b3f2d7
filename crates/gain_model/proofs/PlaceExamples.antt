-- Examples of places of SWAP*.
use Rattle.std.proofs.Common.{◌≡◌, ℕ, List, [], ◌∷◌, length, replicate, refl, sym, ap, arith, lit<, zero, suc, ◌<◌}
use Rattle.std.specs.Prelude.{flat_map, map}
use Rattle.problem_data.specs.declared.problem.Problem.{Problem}
use Rattle.problem_data.specs.Places.{type_at, type_of}
use Rattle.routing_model.specs.Routes.{Routes, list_at}
use Rattle.routing_model.proofs.Examples.{three, plain_client, plain_problem, plain_type, weights}
use Rattle.search_model.specs.RouteMoves.{best_inserted, omitted}
use Rattle.search_model.proofs.MoveExamples.{line, lists, sides, visits}
use Rattle.gain_model.specs.KeptPlaces.{Kept, best_places, inserted_by_kept, kept_fits, seen_places, tour_with}

-- a tour of 20 behind both, of 21 before both and of 27 between them
first_tour : tour_with three (plain_type 3 10) (visits (1 ∷ 2 ∷ [])) 3 0 ≡ 21
first_tour = refl

three_places : best_places three (plain_type 3 10) (visits (1 ∷ 2 ∷ [])) 3 ≡ 2 ∷ 0 ∷ 1 ∷ []
three_places = refl

-- an unused list has one place
one_place : best_places three (plain_type 3 10) [] 3 ≡ 0 ∷ []
one_place = refl

-- three of four places are kept
first_places : best_places line (plain_type 1 0) (visits (1 ∷ 2 ∷ 3 ∷ [])) 4 ≡ 2 ∷ 3 ∷ 1 ∷ []
first_places = refl

-- kept places beside the client that goes are left out, and later ones move up
seen : seen_places (0 ∷ 3 ∷ 1 ∷ []) 1 ≡ 0 ∷ 1 ∷ 2 ∷ []
seen = refl

seen_beside : seen_places (1 ∷ 2 ∷ []) 1 ≡ 1 ∷ []
seen_beside = refl

-- with the kept places a client goes where it goes with all places
kept_three : inserted_by_kept three (plain_type 3 10) (1 ∷ 2 ∷ []) 1 3 ≡ 3 ∷ 2 ∷ []
kept_three = refl

all_three : best_inserted three (plain_type 3 10) 3 (omitted 1 (1 ∷ 2 ∷ [])) ≡ 3 ∷ 2 ∷ []
all_three = refl

-- the best places are beside the client that goes, and its old place is then the best
kept_sides : inserted_by_kept sides (plain_type 2 0) (3 ∷ 2 ∷ 4 ∷ []) 2 1 ≡ best_inserted sides (plain_type 2 0) 1 (3 ∷ 4 ∷ [])
kept_sides = refl

kept_line : inserted_by_kept line (plain_type 1 0) (1 ∷ 2 ∷ 3 ∷ []) 2 4 ≡ best_inserted line (plain_type 1 0) 4 (1 ∷ 3 ∷ [])
kept_line = refl

-- two lists of six clients each
abbrev twelve : Problem
twelve = plain_problem (replicate 12 (plain_client 0)) (plain_type 2 0 ∷ [])
    (0 ∷ 14 ∷ 9 ∷ 5 ∷ 7 ∷ 15 ∷ 11 ∷ 13 ∷ 5 ∷ 1 ∷ 19 ∷ 6 ∷ 15 ∷
    14 ∷ 0 ∷ 21 ∷ 13 ∷ 21 ∷ 18 ∷ 5 ∷ 9 ∷ 18 ∷ 15 ∷ 18 ∷ 12 ∷ 10 ∷
    9 ∷ 21 ∷ 0 ∷ 7 ∷ 4 ∷ 11 ∷ 16 ∷ 15 ∷ 3 ∷ 7 ∷ 17 ∷ 9 ∷ 16 ∷
    5 ∷ 13 ∷ 7 ∷ 0 ∷ 8 ∷ 10 ∷ 9 ∷ 9 ∷ 5 ∷ 4 ∷ 14 ∷ 1 ∷ 10 ∷
    7 ∷ 21 ∷ 4 ∷ 8 ∷ 0 ∷ 15 ∷ 17 ∷ 17 ∷ 4 ∷ 6 ∷ 21 ∷ 10 ∷ 19 ∷
    15 ∷ 18 ∷ 11 ∷ 10 ∷ 15 ∷ 0 ∷ 13 ∷ 9 ∷ 12 ∷ 14 ∷ 6 ∷ 9 ∷ 9 ∷
    11 ∷ 5 ∷ 16 ∷ 9 ∷ 17 ∷ 13 ∷ 0 ∷ 5 ∷ 13 ∷ 11 ∷ 14 ∷ 7 ∷ 7 ∷
    13 ∷ 9 ∷ 15 ∷ 9 ∷ 17 ∷ 9 ∷ 5 ∷ 0 ∷ 13 ∷ 12 ∷ 9 ∷ 7 ∷ 2 ∷
    5 ∷ 18 ∷ 3 ∷ 5 ∷ 4 ∷ 12 ∷ 13 ∷ 13 ∷ 0 ∷ 4 ∷ 17 ∷ 6 ∷ 15 ∷
    1 ∷ 15 ∷ 7 ∷ 4 ∷ 6 ∷ 14 ∷ 11 ∷ 12 ∷ 4 ∷ 0 ∷ 18 ∷ 5 ∷ 14 ∷
    19 ∷ 18 ∷ 17 ∷ 14 ∷ 21 ∷ 6 ∷ 14 ∷ 9 ∷ 17 ∷ 18 ∷ 0 ∷ 13 ∷ 8 ∷
    6 ∷ 12 ∷ 9 ∷ 1 ∷ 10 ∷ 9 ∷ 7 ∷ 7 ∷ 6 ∷ 5 ∷ 13 ∷ 0 ∷ 9 ∷
    15 ∷ 10 ∷ 16 ∷ 10 ∷ 19 ∷ 9 ∷ 7 ∷ 2 ∷ 15 ∷ 14 ∷ 8 ∷ 9 ∷ 0 ∷ []) []

abbrev us : List ℕ
us = 1 ∷ 2 ∷ 3 ∷ 4 ∷ 5 ∷ 6 ∷ []

abbrev vs : List ℕ
vs = 7 ∷ 8 ∷ 9 ∷ 10 ∷ 11 ∷ 12 ∷ []

-- where each client of a list goes in the other list without each of its clients
abbrev by_kept : List ℕ → List ℕ → List (List ℕ)
by_kept from to = flat_map (λ u. map (λ v. inserted_by_kept twelve (plain_type 2 0) to v u) to) from

abbrev by_all : List ℕ → List ℕ → List (List ℕ)
by_all from to = flat_map (λ u. map (λ v. best_inserted twelve (plain_type 2 0) u (omitted v to)) to) from

first_to_second : by_kept us vs ≡ by_all us vs
first_to_second = refl

second_to_first : by_kept vs us ≡ by_all vs us
second_to_first = refl

-- what is kept of a plan's lists fits them
abbrev routes : Routes
routes = lists ((1 ∷ 2 ∷ []) ∷ [] ∷ [] ∷ [])

abbrev table : Routes → Kept
table plan client vehicle = best_places three (plain_type 3 10) (list_at plan vehicle) client

place_of : (client vehicle : ℕ) → vehicle < 3 → best_places three (type_at three (type_of three vehicle)) (list_at routes vehicle) client ≡ table routes client vehicle
place_of client zero h = refl
place_of client (suc zero) h = refl
place_of client (suc (suc zero)) h = refl
place_of client (suc (suc (suc v))) h = absurd (far v h)
  where
    far : (v : ℕ) → suc (suc (suc v)) < 3 → ⊥
    far v h = omega arith

fits : kept_fits (table routes) three routes weights
fits client vehicle place there = sym (place_of client vehicle there)

-- two places aren't enough, and what is kept of other lists doesn't fit
abbrev two_places : Kept
two_places client vehicle = 2 ∷ 0 ∷ []

shorter : ◌≡◌ {A = List ℕ} (2 ∷ 0 ∷ []) (2 ∷ 0 ∷ 1 ∷ []) → ⊥
shorter e = let n : ◌≡◌ {A = ℕ} 2 3 = ap length e in omega arith

two_dont_fit : kept_fits two_places three routes weights → ⊥
two_dont_fit fit = shorter (fit 3 0 refl (lit< tt))

one_more : ◌≡◌ {A = List ℕ} (0 ∷ []) (2 ∷ 0 ∷ 1 ∷ []) → ⊥
one_more e = let n : ◌≡◌ {A = ℕ} 1 3 = ap length e in omega arith

stale : kept_fits (table (lists ([] ∷ (1 ∷ 2 ∷ []) ∷ [] ∷ []))) three routes weights → ⊥
stale fit = one_more (fit 3 0 refl (lit< tt))
