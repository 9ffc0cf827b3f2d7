-- What a descent is handed, and what it gives.
use Rattle.std.specs.Prelude.{◌≡◌, ℕ, ◌-◌, ◌^◌, ◌<◌, ◌≤◌, min, All, List, length, slice_index, slice_index_or}
use Rattle.problem_data.specs.declared.problem.Problem.{Problem}
use Rattle.problem_data.specs.Places.{place_count}
use Rattle.routing_model.specs.declared.weights.Weights.{Weights}
use Rattle.routing_model.specs.Routes.{Routes}
use Rattle.search_model.specs.declared.candidate.Candidate.{Candidate}
use Rattle.search_model.specs.declared.kind.Kind.{Kind}
use Rattle.search_model.specs.Neighbours.{near_list}
use Rattle.search_model.specs.Search.{after_moves, descended, moves_of_kind, route_moves, route_tries}
use Rattle.move_core.specs.declared.tally.Tally.{Tally}
use Rattle.local_search.specs.Counts.{RoseBy, RoseTogether, all_applied, all_tried}

-- the places that an order of clients names are there
abbrev pub NamesClients : Problem → List ℕ → Type 0
NamesClients p order = All (λ client. client < place_count p) order

-- and those that neighbour lists name
abbrev pub NamesPlaces : Problem → List (List ℕ) → Type 0
NamesPlaces p lists = (client : ℕ) → All (λ place. place < place_count p) (near_list lists client)

-- The plan is the one that the descent over some candidates ends with. The tally tells how many moves were taken, and how many times
-- operators were asked: for each candidate once at least, and at most as often as the descent tries one. Each operator's counts rose by
-- its own.
pub record Descends (p : Problem) (w : Weights) (kinds : List Kind) (candidates : List Candidate) (before after : Routes) (old new : List Tally) (tally : Tally) : Type 0 where
  pub routes : after ≡ descended p w candidates before
  pub moves : tally.applied ≡ min (length (route_moves p w candidates before)) (2 ^ 64 - 1)
  pub asked : ℕ
  pub least : length candidates ≤ asked
  pub most : asked ≤ length (route_tries p w candidates before)
  pub tries : tally.tried ≡ min asked (2 ^ 64 - 1)
  pub rose : RoseTogether asked (all_tried old) (all_tried new)
  pub applied : (k : ℕ) (d : Kind) → k < length kinds → RoseBy (moves_of_kind (slice_index_or kinds k d) (route_moves p w candidates before)) (slice_index (all_applied old) k) (slice_index (all_applied new) k)

-- a descent stopped after some of its moves
pub record StopsAfter (p : Problem) (w : Weights) (candidates : List Candidate) (before after : Routes) : Type 0 where
  pub moves : ℕ
  pub routes : after ≡ after_moves p w candidates before moves
