use Rattle.std.proofs.Common.{List, length, ◌≤◌}
use Rattle.list_words.specs.Lists.{times}
use Rattle.genetic_model.specs.Population.{items_of}
use Rattle.genetic_model.specs.Run.{Run, with_random}
use Rattle.move_core.specs.declared.tally.Tally.{Tally}
use Rattle.population.specs.Populations.{population_of}
use Rattle.genetic.specs.inside.Runs.{IsRunning, IsSameIteration, Stands}
use Rattle.genetic.proofs.run.Run.populate.Given as goal

-- so many plans were added
abbrev pub invariant-loop : goal.invariant-loop
invariant-loop l = record {
  running : IsRunning l.self;
  same : IsSameIteration l.fn.self l.self;
  some : 1 ≤ l.counter → 1 ≤ length (items_of (population_of l.self.population));
  stands : (first ts : List Tally) (r : Run) → Stands first l.fn.self ts r → Stands first l.self ts (times l.counter (with_random l.fn.self.given.now) r);
}
