use Rattle.std.proofs.Common.{◌≡◌, take}
use Rattle.routing_model.specs.Routes.{list_at}
use Rattle.genetic_model.specs.BrokenPairs.{back_of, depot}
use Rattle.plan_differences.specs.Beside.{beside_of}
use Rattle.plan_differences.specs.inside.Filling.{AreFilled}
use Rattle.plan_differences.proofs.FilledEntries.{met}
use Rattle.plan_differences.proofs.filling.fill_list.Given as goal

abbrev pub invariant-loop-at : goal.invariant-loop-at
invariant-loop-at l = record {
  list : l.visits ≡ list_at l.routes l.vehicle;
  filled : AreFilled l.given l.routes (met l.given l.routes l.vehicle l.at) l.entries;
  on_left : beside_of l.left ≡ back_of depot (take l.at (list_at l.routes l.vehicle));
}
