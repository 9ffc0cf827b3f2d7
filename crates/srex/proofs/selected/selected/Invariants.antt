use Rattle.std.specs.Prelude.{◌≡◌, ◌-◌, ◌≤◌}
use Rattle.genetic_model.specs.RouteSelection.{around}
use Rattle.srex.proofs.selected.selected.Given as goal

abbrev pub invariant-loop-at : goal.invariant-loop-at
invariant-loop-at l = record {
  begun : l.start ≤ l.at;
  vehicles : l.vehicles.items ≡ around l.order l.start (l.at - l.start);
}
