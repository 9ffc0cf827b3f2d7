use Rattle.std.specs.Prelude.{◌≡◌, ◌<◌, length, nat_le, slice_index, take}
use Rattle.std.specs.List.{best_of}
use Rattle.list_words.specs.Lists.{places_of}
use Rattle.plan_fitness.proofs.fitness.worst.Given as goal

abbrev pub invariant-loop-place : goal.invariant-loop-place
invariant-loop-place l =
    (l.worst < length l.fitnesses)
    × (l.worst ≡ best_of (λ j i. nat_le (slice_index l.fitnesses i) (slice_index l.fitnesses j)) 0 (take l.place (places_of l.fitnesses)))
