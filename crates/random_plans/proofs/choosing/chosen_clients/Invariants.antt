use Rattle.std.proofs.Common.{◌≡◌, take}
use Rattle.random_plans.specs.inside.Choices.{group_marks}
use Rattle.random_plans.proofs.WalkSteps.{walked}
use Rattle.random_plans.proofs.choosing.chosen_clients.Given as goal

-- the marks, the chosen and the state are those of the walk over the first places
abbrev pub invariant-loop-at : goal.invariant-loop-at
invariant-loop-at l = record {
  marks : l.marks.items ≡ group_marks l.given (take l.at l.order);
  chosen : l.chosen.items ≡ (walked l.given l.order l.fn.generator l.at).picked;
  state : l.generator ≡ (walked l.given l.order l.fn.generator l.at).state;
}
