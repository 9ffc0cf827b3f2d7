-- Moments as another segment sees them.
use Rattle.std.specs.Prelude.{◌*◌, ◌^◌, ℤ, pos, ◌+ℤ◌, ◌≤ℤ◌}
use Rattle.segments.specs.Totals.{largest_total}

-- from the start of a segment to the start of the next one
pub record IsShift (shift : ℤ) : Type 0 where
  pub back : pos 0 ≤ℤ (shift +ℤ pos largest_total)
  pub forth : shift ≤ℤ pos (2 * largest_total)

-- a moment as another segment sees it, or a span between two such moments
pub record IsNear (moment : ℤ) : Type 0 where
  pub back : pos 0 ≤ℤ (moment +ℤ pos (2 * 10 ^ 18))
  pub forth : moment ≤ℤ pos (2 * 10 ^ 18)
