-- What named files hold.
use Rattle.std.specs.Prelude.{ℕ, Bool, List, [], ◌∷◌, Option, Some, None, if◌then◌else◌}
use Rattle.std.specs.Str.{bytes_eq}

-- The bytes of the names in a list, the first entry of a name counting. Any other name is an empty file where `is_open`
-- says so, and else absent.
pub record Holding : Type 0 where
  pub entries : List (List ℕ × List ℕ)
  pub is_open : Bool

-- what a name that isn't in the list holds
abbrev pub held_outside : Bool → Option (List ℕ)
held_outside is_open = if is_open then Some [] else None

-- what a name holds by a list of entries
abbrev pub held_among : Bool → List (List ℕ × List ℕ) → List ℕ → Option (List ℕ)
held_among is_open [] name = held_outside is_open
held_among is_open (entry ∷ rest) name = if bytes_eq entry.0 name then Some entry.1 else held_among is_open rest name

-- what a name holds: its bytes, or nothing where it is absent
abbrev pub held_at : Holding → List ℕ → Option (List ℕ)
held_at holding name = held_among holding.is_open holding.entries name
