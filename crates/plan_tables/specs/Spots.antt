-- Where the clients of a plan stand, as it is kept.
use Rattle.std.specs.Prelude.{◌≡◌, ℕ, ◌<◌, ◌≤◌, ◌==◌, List, length, slice_index_or, Option, Some, None, if◌then◌else◌}
use Rattle.routing_model.specs.Routes.{Routes, visit_count}
use Rattle.search_model.specs.Edits.{position_of}
use Rattle.plan_tables.specs.declared.spots.Spot.{Spot}

-- the position that a spot tells
abbrev pub position_at : Spot → Option (ℕ × ℕ)
position_at spot = if spot.place == 0 then None else Some (spot.vehicle, spot.place)

-- the spot of each place
pub record AreSpots (places : ℕ) (routes : Routes) (spots : List Spot) : Type 0 where
  pub count : length spots ≡ places
  pub each : (client : ℕ) (none : Spot) → client < places → position_at (slice_index_or spots client none) ≡ position_of routes client

-- no client stands twice in a plan
abbrev pub AreOnce : Routes → Type 0
AreOnce routes = (client : ℕ) → visit_count routes client ≤ 1
