-- What an exchange is, and how much it reads.
use Rattle.std.specs.Prelude.{ℕ}
use Rattle.move_core.specs.declared.tally.Tally.{Tally}

-- an exchange of n and m, with its tally
pub record ExchangeState : Type 0 where
  pub n : ℕ
  pub m : ℕ
  pub tally : Tally

-- how many legs an answer may take: eight of the screen, and those of the gain
abbrev pub answer_reads : ℕ
answer_reads = 26
