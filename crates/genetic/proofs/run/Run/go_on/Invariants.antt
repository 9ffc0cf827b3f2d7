use Rattle.std.proofs.Common.{List, length, map, ◌≡◌, ◌≤◌}
use Rattle.search_model.specs.Kinds.{all_kinds}
use Rattle.genetic_model.specs.Population.{items_of}
use Rattle.genetic_model.specs.Run.{Run, run_on}
use Rattle.move_core.specs.declared.tally.Tally.{Tally}
use Rattle.population.specs.Populations.{population_of}
use Rattle.genetic.specs.inside.Runs.{IsOnItsWay, IsRunning, IsSameRun, Stands}
use Rattle.genetic.proofs.LeftIterations.{left}
use Rattle.genetic.proofs.run.Run.go_on.Given as goal

-- the run is on its way to its end
abbrev pub invariant-loop-self : goal.invariant-loop-self
invariant-loop-self g l = record {
  running : IsRunning l.self;
  same : IsSameRun l.fn.self l.self;
  idle : l.self.idle ≤ l.self.iterations;
  stale : l.self.stale ≤ l.self.iterations;
  kinds : map (λ b. (goal.Operator-dyn g (b.vtable, b.value)).kind_of b.value) l.kit.items ≡ all_kinds;
  some : 1 ≤ length (items_of (population_of l.self.population));
  stands : (first : List Tally) (r : Run) → Stands first l.fn.self (map (λ b. (goal.Operator-dyn g (b.vtable, b.value)).tally_of b.value) l.fn.kit.items) r →
      IsOnItsWay first l.self (map (λ b. (goal.Operator-dyn g (b.vtable, b.value)).tally_of b.value) l.kit.items) (left l.self) (run_on l.fn.self.given.now l.fn.self.params (left l.fn.self) r);
}

-- fewer iterations are left
abbrev pub decreases-loop-self : goal.decreases-loop-self
decreases-loop-self g l = left l.self
