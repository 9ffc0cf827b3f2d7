-- How far clients are after one another, pair by pair, and what is sorted to find the nearest.
use Rattle.std.specs.Prelude.{ℕ, ◌+◌, ◌*◌, ◌/◌, ◌%◌, ◌==◌, ◌≤◌, List, length, map, filter, not}
use Rattle.std.specs.List.{range_with_len}
use Rattle.problem_data.specs.declared.problem.Problem.{Problem}
use Rattle.problem_data.specs.Places.{client_places, depot_count}
use Rattle.search_model.specs.Neighbours.{near, proximity}
use Rattle.granular.specs.declared.proximity.Proximity.{Proximity}

-- each weight is within its limit
pub record AreWeights (weights : Proximity) : Type 0 where
  pub wait : weights.wait ≤ 100000
  pub warp : weights.warp ≤ 100000

-- how far the second client of the k-th pair is after the first
unfoldable pub pair_near : Problem → Proximity → ℕ → ℕ
pair_near p weights k = near p weights.wait weights.warp (depot_count p + k / length p.clients) (depot_count p + k % length p.clients)

-- all pairs, row after row
abbrev pub all_nears : Problem → Proximity → List ℕ
all_nears p weights = map (pair_near p weights) (range_with_len 0 (length p.clients * length p.clients))

-- some places without a client's own, each behind its proximity to the client
abbrev pub keys_among : Problem → Proximity → ℕ → List ℕ → List (ℕ × ℕ)
keys_among p weights client places = map (λ o. (proximity p weights.wait weights.warp client o, o)) (filter (λ o. not (o == client)) places)

-- those of all clients
abbrev pub keys_of : Problem → Proximity → ℕ → List (ℕ × ℕ)
keys_of p weights client = keys_among p weights client (client_places p)
