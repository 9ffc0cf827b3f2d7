-- Sets of clients, as a mark for each place.
use Rattle.std.specs.Prelude.{◌≡◌, ℕ, ◌<◌, Bool, false, List, length, slice_index_or}
use Rattle.list_words.specs.Lists.{is_in}

-- just the places of these clients are marked
abbrev pub AreMarks : List Bool → List ℕ → Type 0
AreMarks marks clients = (c : ℕ) → c < length marks → slice_index_or marks c false ≡ is_in clients c
