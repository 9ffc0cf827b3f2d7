use Rattle.std.proofs.Common.{◌≡◌, ◌-◌, ◌≤◌, length}
use Rattle.list_words.specs.Lists.{times}
use Rattle.genetic_model.specs.Population.{without_last_duplicate}
use Rattle.subpopulation.specs.Kept.{IsKept, plans_of}
use Rattle.subpopulation.proofs.list.Subpopulation.drop_duplicates.Given as goal

abbrev pub invariant-loop-count : goal.invariant-loop-count
invariant-loop-count l = record {
  kept : IsKept l.given l.self;
  few : length (plans_of l.self) ≤ length (plans_of l.initial.self);
  steps : times (length (plans_of l.initial.self) - l._count) without_last_duplicate (plans_of l.self)
      ≡ times (length (plans_of l.initial.self) - l.least) without_last_duplicate (plans_of l.initial.self);
}
