-- How a counter of reads rises. A count at its last value, 2^64 - 1, stays there.
use Rattle.std.specs.Prelude.{◌≡◌, ℕ, ◌+◌, ◌-◌, ◌^◌, ◌≤◌, min, max}

-- by one
pub record OneMore (before now : ℕ) : Type 0 where
  pub exact : now ≡ max before (min (before + 1) (2 ^ 64 - 1))
  pub kept : before ≤ now
  pub most : now ≤ before + 1

-- by at most a number
pub record RoseAtMost (most_reads before now : ℕ) : Type 0 where
  pub kept : before ≤ now
  pub most : now ≤ before + most_reads
