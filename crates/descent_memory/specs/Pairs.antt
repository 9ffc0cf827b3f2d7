-- Pairs of vehicles, in order: the first vehicle with each later one, then the second, and so on.
use Rattle.std.specs.Prelude.{ℕ, zero, suc, ◌+◌, ◌-◌}

-- how many pairs the first n of some vehicles make with later ones
abbrev pub pairs_before : ℕ → ℕ → ℕ
pairs_before count zero = 0
pairs_before count (suc n) = pairs_before count n + (count - suc n)

-- the place of a pair among all pairs of some vehicles
abbrev pub pair_place : ℕ → ℕ → ℕ → ℕ
pair_place count first second = pairs_before count first + (second - suc first)
