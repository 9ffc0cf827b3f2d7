-- The numbers that segments add up.
use Rattle.std.specs.Prelude.{ℕ, ◌^◌, ℤ, pos, ◌≤ℤ◌}
use Rattle.problem_data.specs.Limits.{largest, largest_leg}

-- the longest leg
abbrev pub longest_joint : ℕ
longest_joint = largest_leg

-- the most that a segment's number may add up to
abbrev pub largest_total : ℕ
largest_total = 10 ^ 16

-- the latest release
abbrev pub latest_release : ℕ
latest_release = largest

-- a leg between two segments, or 0
pub record IsJoint (joint : ℤ) : Type 0 where
  pub from_0 : pos 0 ≤ℤ joint
  pub to_longest : joint ≤ℤ pos longest_joint

-- a number that adds up from stop to stop
pub record IsTotal (total : ℤ) : Type 0 where
  pub from_0 : pos 0 ≤ℤ total
  pub to_largest : total ≤ℤ pos largest_total
