-- Where tails begin.
use Rattle.std.specs.Prelude.{ℕ, zero, suc, ◌+◌, List, Option, None, Some, slice_get}
use Rattle.problem_data.specs.declared.visit.Visit.{Visit}
use Rattle.problem_data.specs.declared.visit.Visit.TheVariants.{Client, Reload}

-- where what is behind a position begins, without the visit there where it is a reload
abbrev pub past_reload : ℕ → Option Visit → ℕ
past_reload left None = left
past_reload left (Some (Client place)) = left
past_reload left (Some (Reload depot)) = left + 1

-- where the tail of a list behind its first visits begins, as it comes behind so many visits of another list
abbrev pub tail_begin : List Visit → ℕ → ℕ → ℕ
tail_begin visits left zero = past_reload left (slice_get visits left)
tail_begin visits left (suc behind) = left
