use Rattle.std.specs.Prelude.{◌≡◌, ◌≤◌, All, map, take}
use Rattle.plan_fitness.specs.inside.Ranked.{greatest, shortfall}
use Rattle.plan_fitness.proofs.fitness.shortfalls.Given as goal

abbrev pub invariant-loop-number : goal.invariant-loop-number
invariant-loop-number l = (l.shortfalls.items ≡ map shortfall (take l.number-index l.numbers)) × All (λ n. n ≤ greatest) (take l.number-index l.numbers)
