use Rattle.std.proofs.Common.{◌≡◌, true, take}
use Rattle.std.specs.List.{list_all}
use Rattle.routing_model.specs.Lawful.{serves_group}
use Rattle.routing_model.specs.Routes.{Routes, visit_count}
use Rattle.penalty_cost.specs.inside.Counts.{IsCounted}
use Rattle.penalty_cost.proofs.lawful.serves_groups.Given as goal

abbrev pub invariant-loop-members : goal.invariant-loop-members
invariant-loop-members l = (routes : Routes) → IsCounted (visit_count routes) l.counts → list_all (serves_group l.given routes) (take l.members-index l.given.groups) ≡ true
