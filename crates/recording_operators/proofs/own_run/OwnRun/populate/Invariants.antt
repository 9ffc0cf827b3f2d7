use Rattle.std.proofs.Common.{length, ◌≤◌}
use Rattle.genetic_model.specs.Population.{items_of}
use Rattle.population.specs.Populations.{population_of}
use Rattle.recording_operators.specs.OwnRuns.{IsOwnRun}
use Rattle.recording_operators.proofs.own_run.OwnRun.populate.Given as goal

-- so many plans were added
abbrev pub invariant-loop : goal.invariant-loop
invariant-loop l = record {
  own : IsOwnRun l.self;
  some : 1 ≤ l.counter → 1 ≤ length (items_of (population_of l.self.population));
}
