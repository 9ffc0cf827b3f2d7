use Rattle.std.proofs.Common.{◌≡◌, ◌≤◌, true, take}
use Rattle.std.specs.Prelude.{count_by, not}
use Rattle.std.specs.List.{list_all}
use Rattle.routing_model.specs.Lawful.{is_allowed}
use Rattle.routing_model.specs.Routes.{is_client}
use Rattle.penalty_cost.proofs.lawful.reloads_as_allowed.Given as goal

abbrev pub invariant-loop-visit : goal.invariant-loop-visit
invariant-loop-visit l = record {
  allowed : list_all (is_allowed l.vehicle_type) (take l.visit-index l.visits) ≡ true;
  few : l.reloads ≤ l.visit-index;
  reloads : l.reloads ≡ count_by (λ visit. not (is_client visit)) (take l.visit-index l.visits);
}
