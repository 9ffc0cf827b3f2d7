-- The candidates of a pass, nested as the descent goes through them: by clients, with their neighbours, with the vehicle types and
-- alone, and then by pairs of vehicles.
use Rattle.std.specs.Prelude.{ℕ, List, [], ◌∷◌, ◌++◌, length, flat_map, slice_index_or}
use Rattle.std.specs.List.{range_with_len}
use Rattle.problem_data.specs.declared.problem.Problem.{Problem}
use Rattle.problem_data.specs.Places.{vehicle_count}
use Rattle.search_model.specs.declared.kind.Kind.{Kind}
use Rattle.search_model.specs.declared.kind.Kind.TheVariants.{Exchange10, RemoveDepot, Remove, SwapRoutes, SwapStar}
use Rattle.search_model.specs.declared.candidate.Target.TheVariants.{After, StartOf, Empty}
use Rattle.search_model.specs.declared.candidate.Candidate.{Candidate}
use Rattle.search_model.specs.declared.candidate.Candidate.TheVariants.{Node, Solo, Routes as Pair}
use Rattle.search_model.specs.Candidates.{client_candidates, neighbour_candidates, unused_candidates, vehicle_candidates}
use Rattle.search_model.specs.Kinds.{all_kinds}
use Rattle.search_model.specs.Neighbours.{near_list}

-- the kind at a place of a kit
abbrev pub kind_at : ℕ → Kind
kind_at at = slice_index_or all_kinds at Exchange10

-- of a client, a neighbour and the kind at a place
abbrev pub kind_candidates : ℕ → ℕ → ℕ → List Candidate
kind_candidates u v at = Node (kind_at at) u (After v) ∷ Node (kind_at at) u (StartOf v) ∷ []

-- of the first twelve kinds, which move a client that is visited, and of those that put in one that isn't
abbrev pub moving_candidates : ℕ → ℕ → List Candidate
moving_candidates u v = flat_map (kind_candidates u v) (range_with_len 0 12)

abbrev pub putting_candidates : ℕ → ℕ → List Candidate
putting_candidates u v = kind_candidates u v 13 ++ kind_candidates u v 15

-- of a client, a vehicle type and the kind at a place
abbrev pub empty_candidates : ℕ → ℕ → ℕ → List Candidate
empty_candidates u type at = Node (kind_at at) u (Empty type) ∷ []

-- of the first twelve kinds
abbrev pub leaving_candidates : ℕ → ℕ → List Candidate
leaving_candidates u type = flat_map (empty_candidates u type) (range_with_len 0 12)

-- of a client with its neighbours
abbrev pub near_candidates : List (List ℕ) → ℕ → List Candidate
near_candidates lists u = flat_map (neighbour_candidates u) (near_list lists u)

-- of a client with the vehicle types
abbrev pub type_candidates : Problem → ℕ → List Candidate
type_candidates p u = flat_map (unused_candidates u) (range_with_len 0 (length p.types))

-- of a client alone
abbrev pub alone_candidates : ℕ → List Candidate
alone_candidates u = Solo RemoveDepot u ∷ Solo Remove u ∷ []

-- of all clients, in an order
abbrev pub all_client_candidates : Problem → List (List ℕ) → List ℕ → List Candidate
all_client_candidates p lists order = flat_map (client_candidates p lists) order

-- of a pair of vehicles
abbrev pub pair_candidates : ℕ → ℕ → List Candidate
pair_candidates first second = Pair SwapRoutes first second ∷ Pair SwapStar first second ∷ []

-- of all pairs
abbrev pub all_pair_candidates : Problem → List Candidate
all_pair_candidates p = flat_map (vehicle_candidates (vehicle_count p)) (range_with_len 0 (vehicle_count p))
