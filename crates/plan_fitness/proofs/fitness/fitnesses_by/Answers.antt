use Rattle.std.proofs.Common.{◌≡◌, ◌∙◌, sym, ap, ap₂, ℕ, ◌<◌, ◌≤◌, List, [], ◌∷◌, ◌++◌, length, map, arith}
use Rattle.std.specs.Prelude.{All}
use Rattle.std.proofs.lemmas.List.{length-map}
use Rattle.std.proofs.lemmas.List.FromFn.{map-range_with_len_more}
use Rattle.list_words.specs.Lists.{rank_falling, rank_rising}
use Rattle.genetic_model.specs.Fitness.{fitness_of_ranks}
use Rattle.plan_fitness.specs.inside.Ranked.{greatest, shortfall}
use Rattle.plan_fitness.proofs.FallingRanks.{falling-is, rank-within}
use Rattle.plan_fitness.proofs.fitness.fitnesses_by.Goals as goal

-- the rank of a place by what is as long as the numbers, and by the numbers
rank-by : (numbers keys : List ℕ) → All (λ n. n ≤ greatest) numbers → keys ≡ map shortfall numbers → (i : ℕ) → i < length numbers →
    (length keys ≡ length numbers) × (rank_rising keys i ≡ rank_falling numbers i)
rank-by numbers keys range e i h = (ap length e ∙ length-map numbers shortfall, ap (λ (l : List ℕ). rank_rising l i) e ∙ falling-is numbers range i h)

pub fitness_of_ranks-requires-clause-cost_rank : goal.fitness_of_ranks-requires-clause-cost_rank
fitness_of_ranks-requires-clause-cost_rank c =
    let costs = c.args.costs.now in
    let i = c.loop-place.place in
    let is = c.ranks-by_cost.ensures i c.loop-place-test.true in
    let few = rank-within costs i in
    omega arith

pub fitness_of_ranks-requires-clause-diversity_rank : goal.fitness_of_ranks-requires-clause-diversity_rank
fitness_of_ranks-requires-clause-diversity_rank c =
    let numbers = c.args.diversities.now in
    let keys = c.as_slice.result.now in
    let i = c.loop-place.place in
    let there : i < length numbers = omega arith in
    let by = rank-by numbers keys c.shortfalls.ensures.range (c.as_slice.ensures.value ∙ c.shortfalls.ensures.values) i there in
    let is = c.ranks-by_diversity.ensures i (omega arith) in
    let few = rank-within keys i in
    omega arith

pub loop-place-preserved : goal.loop-place-preserved
loop-place-preserved c =
    let params = c.args.params in
    let costs = c.args.costs.now in
    let numbers = c.args.diversities.now in
    let keys = c.as_slice.result.now in
    let i = c.loop-place.place in
    let there : i < length numbers = omega arith in
    let by = rank-by numbers keys c.shortfalls.ensures.range (c.as_slice.ensures.value ∙ c.shortfalls.ensures.values) i there in
    let by_cost = c.ranks-by_cost.ensures i c.loop-place-test.true in
    let by_diversity = c.ranks-by_diversity.ensures i (omega arith) ∙ by.1 in
    let item = c.fitness_of_ranks.ensures ∙ ap₂ (fitness_of_ranks params (length costs)) by_cost by_diversity in
    let more = map-range_with_len_more (λ (i : ℕ). fitness_of_ranks params (length costs) (rank_rising costs i) (rank_falling numbers i)) 0 i i (omega arith) in
    (omega arith, c.push.ensures.items ∙ (ap₂ (λ (t : List ℕ) (x : ℕ). t ++ x ∷ []) c.loop-place.invariant.1 item ∙ sym more))
