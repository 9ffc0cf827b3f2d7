use Rattle.std.specs.Prelude.{◌≡◌, ◌-◌}
use Rattle.genetic_model.specs.Selection.{second_parent}
use Rattle.population.specs.Populations.{population_of}
use Rattle.population.proofs.plans.Population.second_parent.Given as goal

abbrev pub invariant-loop-held : goal.invariant-loop-held
invariant-loop-held l =
    second_parent l.given (population_of l.self) l.scores l.first l.more l.initial.words
    ≡ second_parent l.given (population_of l.self) l.scores l.first (l.more - l._held) l.words
