-- How counts rise by several at once. A count at its last value, 2^64 - 1, stays there.
use Rattle.std.specs.Prelude.{◌≡◌, ℕ, ◌+◌, ◌-◌, ◌^◌, ◌<◌, ◌≤◌, min, max, All, List, length, map, sum, slice_index}
use Rattle.move_core.specs.declared.tally.Tally.{Tally}

-- a count by a number
pub record RoseBy (rise before now : ℕ) : Type 0 where
  pub exact : now ≡ max before (min (before + rise) (2 ^ 64 - 1))
  pub kept : before ≤ now
  pub most : now ≤ before + rise

-- some counts by a number together, where none of them stands at its last value
pub record RoseTogether (rise : ℕ) (before now : List ℕ) : Type 0 where
  pub as_many : length now ≡ length before
  pub kept : (k : ℕ) → slice_index before k ≤ slice_index now k
  pub exact : All (λ count. count < 2 ^ 64 - 1) now → sum now ≡ sum before + rise

-- the counts of some tallies
abbrev pub all_tried : List Tally → List ℕ
all_tried tallies = map (λ (t : Tally). t.tried) tallies

abbrev pub all_applied : List Tally → List ℕ
all_applied tallies = map (λ (t : Tally). t.applied) tallies
