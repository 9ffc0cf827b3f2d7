-- What stands beside the clients of a plan, as numbers.
use Rattle.std.specs.Prelude.{◌≡◌, ℕ, ◌≤◌, ◌==◌, if◌then◌else◌, IsTrue, List, length, slice_index_or}
use Rattle.problem_data.specs.declared.problem.Problem.{Problem}
use Rattle.problem_data.specs.Places.{is_client_place, place_count}
use Rattle.routing_model.specs.Routes.{Routes}
use Rattle.genetic_model.specs.BrokenPairs.{Neighbour, client, depot, none, left, right, neighbour_of, triples}
use Rattle.plan_differences.specs.declared.flanks.TheConstants.{DEPOT, NONE}
use Rattle.plan_differences.specs.declared.flanks.Flanks.{Flanks}

-- the neighbour that a number says
abbrev pub beside_of : ℕ → Neighbour
beside_of number = if number == DEPOT then depot else (if number == NONE then none else client number)

-- the entry of a client
abbrev pub flanks_at : List Flanks → ℕ → Flanks
flanks_at entries c = slice_index_or entries c (record { left = NONE; right = NONE })

-- an entry says what stands beside a client of a plan
pub record SaysBeside (routes : Routes) (c : ℕ) (flanks : Flanks) : Type 0 where
  pub on_left : beside_of flanks.left ≡ neighbour_of (triples routes) left c
  pub on_right : beside_of flanks.right ≡ neighbour_of (triples routes) right c

-- there are entries for all places, and that of each client says what stands beside it
pub record AreFlanks (p : Problem) (routes : Routes) (entries : List Flanks) : Type 0 where
  pub places : place_count p ≤ length entries
  pub clients : (c : ℕ) → IsTrue (is_client_place p c) → SaysBeside routes c (flanks_at entries c)
