use Rattle.std.proofs.Common.{◌≡◌, length, take}
use Rattle.routing_model.specs.Routes.{visit_count}
use Rattle.penalty_cost.specs.inside.Counts.{IsCounted}
use Rattle.penalty_cost.proofs.lawful.visit_counts.Given as goal

abbrev pub invariant-loop-visits : goal.invariant-loop-visits
invariant-loop-visits l = record {
  places : length l.table.items ≡ l.places;
  counts : IsCounted (visit_count (take l.visits-index l.routes)) l.table.items;
}
