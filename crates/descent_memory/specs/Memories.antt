-- What a descent remembers of its turns and of its moves.
use Rattle.std.specs.Prelude.{◌≡◌, ℕ, ◌-◌, ◌^◌, ◌<◌, ◌≤◌, List, slice_index, slice_index_or, length, Option, None}
use Rattle.problem_data.specs.declared.problem.Problem.{Problem}
use Rattle.problem_data.specs.Places.{place_count, vehicle_count}
use Rattle.routing_model.specs.Routes.{Routes}
use Rattle.search_model.specs.Edits.{unused_vehicle}
use Rattle.descent_memory.specs.Pairs.{pairs_before}

-- The moments of turns: one more than the clock was as the last finished turn began, and 0 where there was none.
pub record Moments : Type 0 where
  -- by place: of the client's turn
  pub clients : List ℕ
  -- by pair of vehicles, in order: of the pair's turn
  pub pairs : List ℕ

-- The last touches: what the clock became by the last move that touched a part, and 0 where none did.
pub record Touches : Type 0 where
  -- by place: of the client with its list
  pub clients : List ℕ
  -- by vehicle type: of its least unused vehicle
  pub types : List ℕ
  -- by vehicle: of its list
  pub lists : List ℕ

-- What is remembered. The clock tells how many moves were taken; it stands still at its last value.
pub record MemoryState : Type 0 where
  -- moves taken, and candidates tried
  pub clock : ℕ
  pub tried : ℕ
  pub moments : Moments
  pub touches : Touches
  -- by vehicle type: its least unused vehicle
  pub unused : List (Option ℕ)

-- a count's last value
abbrev pub last_count : ℕ
last_count = 2 ^ 64 - 1

-- the memory has a number for each place, type, vehicle and pair, and knows the least unused vehicle of each type
pub record IsMemoryOf (p : Problem) (routes : Routes) (memory : MemoryState) : Type 0 where
  pub counted : memory.clock ≤ last_count
  pub moments : length memory.moments.clients ≡ place_count p
  pub pairs : length memory.moments.pairs ≡ pairs_before (vehicle_count p) (vehicle_count p)
  pub clients : length memory.touches.clients ≡ place_count p
  pub types : length memory.touches.types ≡ length p.types
  pub lists : length memory.touches.lists ≡ vehicle_count p
  pub as_many : length memory.unused ≡ length p.types
  pub unused : (type : ℕ) → type < length p.types → slice_index_or memory.unused type None ≡ unused_vehicle p routes type

-- a memory of no turn, no move and no try
pub record IsFresh (p : Problem) (routes : Routes) (memory : MemoryState) : Type 0 where
  pub memory_of : IsMemoryOf p routes memory
  pub clock : memory.clock ≡ 0
  pub tried : memory.tried ≡ 0
  pub clients : (client : ℕ) → slice_index memory.moments.clients client ≡ 0
  pub pairs : (place : ℕ) → slice_index memory.moments.pairs place ≡ 0
