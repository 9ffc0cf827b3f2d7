use Rattle.std.specs.Prelude.{◌≡◌, ℕ, ◌<◌, length, slice_index, slice_index_or}
use Rattle.list_words.specs.Lists.{rank_rising}
use Rattle.plan_fitness.proofs.ranking.ranks.Given as goal

abbrev pub invariant-loop-rank : goal.invariant-loop-rank
invariant-loop-rank l =
    (length l.ranks ≡ 401)
    × ((k : ℕ) (d : ℕ × ℕ) → k < l.rank → slice_index l.ranks (slice_index_or l.pair-items k d).1 ≡ rank_rising l.values (slice_index_or l.pair-items k d).1)
