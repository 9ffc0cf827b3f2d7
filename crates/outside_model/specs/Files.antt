-- What files answer to loads, and what a store makes of them. Files may not tell what they hold.
use Rattle.std.specs.Prelude.{◌≡◌, ◌≢◌, ℕ, ◌<◌, ◌≤◌, ⊤, List, length, Option, Some, None}
use Rattle.outside_model.specs.Holding.{Holding, held_at}

-- what files answer to a load: a fault of theirs, that the file is longer than the limit, or its bytes
pub data Load : Type 0 where
  failed : Load
  too_long : Load
  loaded : List ℕ → Load

-- a name holds these bytes, at most `limit` of them; files that don't tell may hold anything
abbrev pub IsLoaded : Option Holding → List ℕ → ℕ → List ℕ → Type 0
IsLoaded None name limit bytes = length bytes ≤ limit
IsLoaded (Some holding) name limit bytes = (held_at holding name ≡ Some bytes) × (length bytes ≤ limit)

-- a name holds more than `limit` bytes, unless the files don't tell
abbrev pub IsTooLong : Option Holding → List ℕ → ℕ → Type 0
IsTooLong None name limit = ⊤
IsTooLong (Some holding) name limit = (bytes : List ℕ) × (held_at holding name ≡ Some bytes) × (limit < length bytes)

-- the answer to a load of a name under a limit is what the files tell of it
abbrev pub IsTold : ℕ → Option Holding → List ℕ → Load → Type 0
IsTold limit holding name failed = ⊤
IsTold limit holding name too_long = IsTooLong holding name limit
IsTold limit holding name (loaded bytes) = IsLoaded holding name limit bytes

-- the files that tell hold these bytes at a name, and all other names as before
pub record IsStored (before after : Holding) (name bytes : List ℕ) : Type 0 where
  pub stored : held_at after name ≡ Some bytes
  pub others : (other : List ℕ) → other ≢ name → held_at after other ≡ held_at before other

-- the same where the files may not tell
abbrev pub Stores : Option Holding → Option Holding → List ℕ → List ℕ → Type 0
Stores None after name bytes = after ≡ None
Stores (Some before) after name bytes = (holding : Holding) × (after ≡ Some holding) × IsStored before holding name bytes

-- all names but one hold what they held
abbrev pub KeepsOthers : Option Holding → Option Holding → List ℕ → Type 0
KeepsOthers None after name = after ≡ None
KeepsOthers (Some before) after name =
    (holding : Holding) × (after ≡ Some holding) × ((other : List ℕ) → other ≢ name → held_at holding other ≡ held_at before other)
