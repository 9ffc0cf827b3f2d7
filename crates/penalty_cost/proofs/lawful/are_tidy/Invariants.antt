use Rattle.std.proofs.Common.{◌≡◌, true, take}
use Rattle.std.specs.List.{list_all}
use Rattle.routing_model.specs.Tidy.{is_tidy}
use Rattle.penalty_cost.proofs.lawful.are_tidy.Given as goal

abbrev pub invariant-loop-visits : goal.invariant-loop-visits
invariant-loop-visits l = list_all is_tidy (take l.visits-index l.routes) ≡ true
