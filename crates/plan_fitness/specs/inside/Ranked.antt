-- Values with their places, in order, and fitnesses by costs and diversities.
use Rattle.std.specs.Prelude.{ℕ, ◌-◌, ◌^◌, List, length, map, slice_index}
use Rattle.std.specs.List.Sorted.{IsPermutation, IsSortedBy}
use Rattle.list_words.specs.Lists.{places_of, rank_rising, rank_falling}
use Rattle.list_words.specs.Order.{pair_lt}
use Rattle.genetic_model.specs.declared.params.PopulationParams.{PopulationParams}
use Rattle.genetic_model.specs.Fitness.{fitness_of_ranks}

-- each value with its place
abbrev pub placed : List ℕ → List (ℕ × ℕ)
placed values = map (λ i. (slice_index values i, i)) (places_of values)

-- these are the values with their places, in order
pub record AreInOrder (values : List ℕ) (pairs : List (ℕ × ℕ)) : Type 0 where
  pub moves : IsPermutation (placed values) pairs
  pub ascends : IsSortedBy pair_lt pairs

-- the fitness of each item of a list, by the items' costs and diversities
abbrev pub fitnesses_by : PopulationParams → List ℕ → List ℕ → List ℕ
fitnesses_by params costs diversities =
    map (λ i. fitness_of_ranks params (length costs) (rank_rising costs i) (rank_falling diversities i)) (places_of costs)

-- the greatest number of 64 bits
abbrev pub greatest : ℕ
greatest = 2 ^ 64 - 1

-- how far a number is below it
abbrev pub shortfall : ℕ → ℕ
shortfall n = greatest - n
