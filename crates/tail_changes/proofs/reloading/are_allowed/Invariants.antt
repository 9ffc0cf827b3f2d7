use Rattle.std.proofs.Common.{◌≡◌, true, take}
use Rattle.std.specs.List.{list_all}
use Rattle.routing_model.specs.Lawful.{is_allowed}
use Rattle.tail_changes.proofs.reloading.are_allowed.Given as goal

abbrev pub invariant-loop-visit : goal.invariant-loop-visit
invariant-loop-visit l = list_all (is_allowed l.vehicle_type) (take l.visit-index l.visits) ≡ true
