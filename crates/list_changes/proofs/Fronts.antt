-- Which clients are the first of their lists.
use Rattle.std.proofs.Common.{◌≡◌, ◌≢◌, ℕ, ◌-◌, false, arith, Some, None}
use Rattle.std.specs.List.{list_any}
use Rattle.search_model.specs.Edits.{begins_with, position_of}
use Rattle.search_model.proofs.ClientPlaces.{stands-at}
use Rattle.search_model.proofs.MovedPieces.{begins-not}
use Rattle.search_model.proofs.PutMoves.{begins-unvisited, position-none}
use Rattle.search_model.proofs.RunMoves.{lawful-once}
use Rattle.move_core.specs.Searches.{IsSound, SearchState}

-- no client that isn't visited
pub no-front : (s : SearchState) (u : ℕ) → position_of s.routes u ≡ None → list_any (begins_with u) s.routes ≡ false
no-front s u none = begins-unvisited s.routes u (position-none s.routes u none)

-- nor one at another place of a list
pub not-first : (s : SearchState) → IsSound s → (u a place : ℕ) → position_of s.routes u ≡ Some (a, place) → place ≢ 1 → list_any (begins_with u) s.routes ≡ false
not-first s sound u a place at other =
    let there = stands-at s.routes u a place at in
    let some = there.0 in
    begins-not s.routes u a (place - 1) (lawful-once s.problem s.routes sound.lawful u) there.1 (omega arith)
