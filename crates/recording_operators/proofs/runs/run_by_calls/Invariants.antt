use Rattle.std.proofs.Common.{length, map, ◌≡◌, ◌≤◌}
use Rattle.search_model.specs.Kinds.{all_kinds}
use Rattle.genetic_model.specs.Population.{items_of}
use Rattle.population.specs.Populations.{population_of}
use Rattle.recording_operators.specs.OwnRuns.{IsOwnRun}
use Rattle.recording_operators.proofs.runs.run_by_calls.Given as goal

abbrev pub invariant-loop : goal.invariant-loop
invariant-loop g l = record {
  own : IsOwnRun l.run;
  kinds : map (λ b. (goal.Operator-dyn g (b.vtable, b.value)).kind_of b.value) l.kit.items ≡ all_kinds;
  some : 1 ≤ length (items_of (population_of l.run.population));
}
