use Rattle.std.proofs.Common.{◌≡◌, ◌+◌, ◌-◌, ◌≤◌, length}
use Rattle.list_words.specs.Lists.{times}
use Rattle.genetic_model.specs.Population.{without_worst}
use Rattle.subpopulation.specs.Kept.{IsKept, plans_of}
use Rattle.subpopulation.proofs.list.Subpopulation.drop_worst.Given as goal

abbrev pub invariant-loop-count : goal.invariant-loop-count
invariant-loop-count l = record {
  kept : IsKept l.given l.self;
  begun : l.least ≤ l._count;
  long : length (plans_of l.self) + (l._count - l.least) ≡ length (plans_of l.initial.self);
  steps : times (length (plans_of l.initial.self) - l._count) (without_worst l.given l.params l.weights) (plans_of l.self)
      ≡ times (length (plans_of l.initial.self) - l.least) (without_worst l.given l.params l.weights) (plans_of l.initial.self);
}
