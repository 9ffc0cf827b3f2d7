-- How the rows of a section are kept: one after the other, with the first row that names each node.
use Rattle.std.specs.Prelude.{◌≡◌, ℕ, suc, ◌+◌, ◌≤◌, Bool, true, false, List, [], ◌∷◌, length, flat_map, All, slice_index, slice_range, ℤ}
use Rattle.std.specs.Option.{option_map_or}
use Rattle.problem_data.specs.Limits.{most_places}
use Rattle.vrplib_model.specs.declared.section.Section.{Section}
use Rattle.vrplib_model.specs.declared.section.Section.TheVariants.{Group as group_section}
use Rattle.vrplib_model.specs.Checks.{has_repeated}
use Rattle.vrplib_model.specs.RowFaults.{names_once, nodes_named}
use Rattle.vrplib_model.specs.inside.FaultlessRows.{IsRow}
use Rattle.vrplib_rows.specs.KeptRows.{first_naming}

-- the rows among their numbers, from a place on, by where each ends
abbrev pub rows_cut : ℕ → List ℕ → List ℤ → List (List ℤ)
rows_cut start [] numbers = []
rows_cut start (end ∷ ends) numbers = slice_range numbers start end ∷ rows_cut end ends numbers

-- the rows end one after the other, the last at the end
abbrev pub EndInOrder : ℕ → List ℕ → ℕ → Type 0
EndInOrder start [] last = start ≡ last
EndInOrder start (end ∷ ends) last = (start ≤ end) × EndInOrder end ends last

-- the section's rows together name each node at most once
abbrev pub names_apart : Section → Bool
names_apart group_section = true
names_apart s = names_once s

-- the owners, by node, are the numbers from 1 of the first rows that name them, or 0
pub record AreOwned (section : Section) (nodes : ℕ) (rows : List (List ℤ)) (owners : List ℕ) : Type 0 where
  pub one_each : length owners ≡ nodes + 1
  pub owned : (node : ℕ) → node ≤ nodes → slice_index owners node ≡ option_map_or suc (first_naming (record { section = section; nodes = nodes; rows = rows }) node) 0
  pub apart : names_apart section ≡ true → has_repeated (flat_map (nodes_named section) rows) ≡ false

-- how rows are kept: their numbers, where each ends, the first row that names each node, and a mark for each node
pub record IsKeptAs (section : Section) (nodes : ℕ) (numbers : List ℤ) (ends owners : List ℕ) (marks : ℕ) : Type 0 where
  pub limit : nodes ≤ most_places
  pub ordered : EndInOrder 0 ends (length numbers)
  pub each : All (IsRow section nodes) (rows_cut 0 ends numbers)
  pub owners_are : AreOwned section nodes (rows_cut 0 ends numbers) owners
  pub one_mark_each : marks ≡ nodes + 1
