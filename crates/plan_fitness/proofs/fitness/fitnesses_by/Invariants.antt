use Rattle.std.specs.Prelude.{◌≡◌, length, map}
use Rattle.std.specs.List.{range_with_len}
use Rattle.list_words.specs.Lists.{rank_falling, rank_rising}
use Rattle.genetic_model.specs.Fitness.{fitness_of_ranks}
use Rattle.plan_fitness.proofs.fitness.fitnesses_by.Given as goal

abbrev pub invariant-loop-place : goal.invariant-loop-place
invariant-loop-place l =
    (length l.fitnesses.items ≡ l.place)
    × (l.fitnesses.items ≡ map (λ i. fitness_of_ranks l.params (length l.costs) (rank_rising l.costs i) (rank_falling l.diversities i)) (range_with_len 0 l.place))
