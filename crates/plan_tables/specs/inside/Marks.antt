-- Marking where clients stand, list after list.
use Rattle.std.specs.Prelude.{◌≡◌, ℕ, ◌+◌, ◌<◌, List, [], ◌∷◌, length, slice_index_or, Option, Some, None, option_map, if◌then◌else◌}
use Rattle.std.specs.List.{position_from}
use Rattle.problem_data.specs.declared.visit.Visit.{Visit}
use Rattle.routing_model.specs.Routes.{Routes, has_client, is_visit_of}
use Rattle.plan_tables.specs.declared.spots.Spot.{Spot}
use Rattle.plan_tables.specs.Spots.{position_at}

-- the first of two positions, if there is one, else the other one
abbrev pub first_of_two : Option (ℕ × ℕ) → Option (ℕ × ℕ) → Option (ℕ × ℕ)
first_of_two None other = other
first_of_two (Some at) other = Some at

-- the position of a client in a list whose first visit has the number of the start and one
abbrev pub position_in : ℕ → ℕ → ℕ → List Visit → Option (ℕ × ℕ)
position_in vehicle client start visits = option_map (λ place. (vehicle, place + 1)) (position_from (is_visit_of client) start visits)

-- the position of a client in the lists of the vehicles from one on
abbrev pub position_among : ℕ → ℕ → Routes → Option (ℕ × ℕ)
position_among client vehicle [] = None
position_among client vehicle (visits ∷ rest) = first_of_two (position_in vehicle client 0 visits) (position_among client (vehicle + 1) rest)

-- no client stands anywhere
pub record AreFree (places : ℕ) (spots : List Spot) : Type 0 where
  pub count : length spots ≡ places
  pub each : (client : ℕ) (none : Spot) → client < places → position_at (slice_index_or spots client none) ≡ None

-- the client of a visit stands now where a spot says, and all others where they stood
pub record MarksVisit (spot : Spot) (visit : Visit) (before now : List Spot) : Type 0 where
  pub count : length now ≡ length before
  pub each : (client : ℕ) (none : Spot) → client < length before →
      position_at (slice_index_or now client none) ≡ (if is_visit_of client visit then position_at spot else position_at (slice_index_or before client none))

-- the clients of a list stand nowhere now, and all others where they stood
pub record FreesList (visits : List Visit) (before now : List Spot) : Type 0 where
  pub count : length now ≡ length before
  pub each : (client : ℕ) (none : Spot) → client < length before →
      position_at (slice_index_or now client none) ≡ (if has_client client visits then None else position_at (slice_index_or before client none))

-- the clients of a list stand there now, and all others where they stood
pub record MarksList (vehicle start : ℕ) (visits : List Visit) (before now : List Spot) : Type 0 where
  pub count : length now ≡ length before
  pub each : (client : ℕ) (none : Spot) → client < length before →
      position_at (slice_index_or now client none) ≡ first_of_two (position_in vehicle client start visits) (position_at (slice_index_or before client none))

-- the clients of the lists of the vehicles from one on stand there, and no others
pub record AreMarkedFrom (places vehicle : ℕ) (routes : Routes) (spots : List Spot) : Type 0 where
  pub count : length spots ≡ places
  pub each : (client : ℕ) (none : Spot) → client < places → position_at (slice_index_or spots client none) ≡ position_among client vehicle routes
