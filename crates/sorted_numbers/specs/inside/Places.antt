-- Places in ascending numbers.
use Rattle.std.specs.Prelude.{ℕ, ◌≤◌, ◌<◌, List, length, slice_index_or}

-- a number can be put in there: none before is greater, and none from there on is less
pub record IsPlaceFor (numbers : List ℕ) (number place : ℕ) : Type 0 where
  pub inside : place ≤ length numbers
  pub before : (k d : ℕ) → k < place → slice_index_or numbers k d ≤ number
  pub behind : (k d : ℕ) → place ≤ k → k < length numbers → number ≤ slice_index_or numbers k d
