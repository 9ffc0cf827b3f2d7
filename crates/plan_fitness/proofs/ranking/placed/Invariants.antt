use Rattle.std.specs.Prelude.{◌≡◌, length, map, slice_index}
use Rattle.std.specs.List.{range_with_len}
use Rattle.plan_fitness.proofs.ranking.placed.Given as goal

abbrev pub invariant-loop-place : goal.invariant-loop-place
invariant-loop-place l = (length l.pairs.items ≡ l.place) × (l.pairs.items ≡ map (λ i. (slice_index l.values i, i)) (range_with_len 0 l.place))
