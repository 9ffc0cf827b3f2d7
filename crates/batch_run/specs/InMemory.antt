-- Files and sinks in memory.
use Rattle.std.specs.Prelude.{◌≡◌, ℕ, ◌⊎◌, Bool, true, false, List, [], ◌∷◌, None}
use Rattle.batch_run.specs.declared.files.FileFault.{FileFault}
use Rattle.outside_model.specs.Holding.{Holding, held_at}

-- what names hold, any other name being an empty file
abbrev pub open_holding : List (List ℕ × List ℕ) → Holding
open_holding entries = record { entries = entries; is_open = true }

-- what names hold, any other name being absent
abbrev pub closed_holding : List (List ℕ × List ℕ) → Holding
closed_holding entries = record { entries = entries; is_open = false }

-- names with their bytes, the faults so far, and for each of the next calls whether it is to fail
pub record FilesInMemory : Type 0 where
  pub entries : List (List ℕ × List ℕ)
  pub faults : List FileFault
  pub failing : List Bool

-- what its names hold
abbrev pub holding_of : FilesInMemory → Holding
holding_of files = closed_holding files.entries

-- whether the next call is to fail
abbrev pub is_next_failing : List Bool → Bool
is_next_failing [] = false
is_next_failing (fails ∷ rest) = fails

-- a load fails: it is to, or the name is absent
abbrev pub LoadFails : FilesInMemory → List ℕ → Type 0
LoadFails files name = (is_next_failing files.failing ≡ true) ⊎ (held_at (holding_of files) name ≡ None)

-- the bytes taken, how many may be taken in all, and the count of faults
pub record SinkInMemory : Type 0 where
  pub written : List ℕ
  pub room : ℕ
  pub faults : ℕ
