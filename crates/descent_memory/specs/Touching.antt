-- What a move that is taken makes of a memory, and what it leaves untouched.
use Rattle.std.specs.Prelude.{◌≡◌, ℕ, ◌<◌, ◌≤◌, true, List, [], ◌∷◌, slice_index_or, slice_set, zero, suc, length, Option, Some, None, if◌then◌else◌}
use Rattle.std.specs.List.{AllByRecursion}
use Rattle.problem_data.specs.declared.problem.Problem.{Problem}
use Rattle.problem_data.specs.declared.visit.Visit.{Visit}
use Rattle.problem_data.specs.declared.visit.Visit.TheVariants.{Client, Reload}
use Rattle.routing_model.specs.Routes.{Routes, list_at}
use Rattle.search_model.specs.declared.candidate.Candidate.{Candidate}
use Rattle.search_model.specs.Basis.{Part, basis, client_part, is_same_vehicle, list_part, touches, unused_part, visited_part}
use Rattle.search_model.specs.Edits.{unused_vehicle}
use Rattle.descent_memory.specs.Memories.{MemoryState, Touches, last_count}

-- no move touched a part since a moment. Of the visited nothing is remembered, so they count as touched.
abbrev pub IsUntouchedPart : Touches → ℕ → Part → Type 0
IsUntouchedPart touches moment (client_part client) = slice_index_or touches.clients client last_count < moment
IsUntouchedPart touches moment (unused_part type) = slice_index_or touches.types type last_count < moment
IsUntouchedPart touches moment (list_part vehicle) = slice_index_or touches.lists vehicle last_count < moment
IsUntouchedPart touches moment (visited_part client) = ⊥

-- nor any part of a candidate's basis
abbrev pub IsUntouched : Problem → Touches → ℕ → Candidate → Type 0
IsUntouched p touches moment candidate = AllByRecursion (IsUntouchedPart touches moment) (basis p candidate)

-- last touches after a visit's client was touched as the clock came to a number, and after those of a list were
abbrev pub touched_by : ℕ → Visit → List ℕ → List ℕ
touched_by clock (Client place) touches = slice_set touches place clock
touched_by clock (Reload depot) touches = touches

abbrev pub touched_clients : ℕ → List Visit → List ℕ → List ℕ
touched_clients clock [] touches = touches
touched_clients clock (visit ∷ rest) touches = touched_clients clock rest (touched_by clock visit touches)

-- a memory that was told of a type's least unused vehicle: it is touched at the clock where it isn't the one that was
abbrev pub renewed : ℕ → Option ℕ → MemoryState → MemoryState
renewed type vehicle memory =
    if is_same_vehicle (slice_index_or memory.unused type None) vehicle then memory
    else record memory { unused = slice_set memory.unused type vehicle; touches = record memory.touches { types = slice_set memory.touches.types type memory.clock } }

-- a memory that was told of the least unused vehicle of each of the first types in a plan
abbrev pub renewed_all : Problem → Routes → ℕ → MemoryState → MemoryState
renewed_all p routes zero memory = memory
renewed_all p routes (suc n) memory = renewed n (unused_vehicle p routes n) (renewed_all p routes n memory)

-- a vehicle's list was touched, which has some visits, with its clients
abbrev pub touched_with : ℕ → List Visit → MemoryState → MemoryState
touched_with vehicle visits memory =
    record memory { touches = record memory.touches { clients = touched_clients memory.clock visits memory.touches.clients; lists = slice_set memory.touches.lists vehicle memory.clock } }

-- the list of a vehicle in a plan was touched, and that of a second one, if there is one
abbrev pub touched_lists : Routes → ℕ → Option ℕ → MemoryState → MemoryState
touched_lists routes first None memory = touched_with first (list_at routes first) memory
touched_lists routes first (Some second) memory = touched_with second (list_at routes second) (touched_with first (list_at routes first) memory)

-- a memory after a move of one vehicle or two, from a plan to another
abbrev pub after_move : Problem → Routes → Routes → ℕ → Option ℕ → MemoryState → MemoryState
after_move p before made first second memory =
    renewed_all p made (length p.types) (touched_lists made first second (touched_lists before first second memory))

-- The last touches after a taken move, by which the clock came to a number: what the move touched isn't untouched since any moment up
-- to then, and what is untouched was so before.
pub record Follows (p : Problem) (before made : Routes) (old new : Touches) (clock : ℕ) : Type 0 where
  pub touched : (part : Part) (moment : ℕ) → moment ≤ clock → touches p before made part ≡ true → IsUntouchedPart new moment part → ⊥
  pub kept : (part : Part) (moment : ℕ) → moment ≤ clock → IsUntouchedPart new moment part → IsUntouchedPart old moment part
