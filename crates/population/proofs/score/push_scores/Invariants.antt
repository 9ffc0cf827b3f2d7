use Rattle.std.specs.Prelude.{◌≡◌, ◌++◌, length, map, take}
use Rattle.population.proofs.score.push_scores.Given as goal

abbrev pub invariant-loop-fitness : goal.invariant-loop-fitness
invariant-loop-fitness l =
    l.scores.items ≡ l.initial.scores.items ++ map (λ f. record { fitness = f; size = length l.fitnesses }) (take l.fitness-index l.fitnesses)
