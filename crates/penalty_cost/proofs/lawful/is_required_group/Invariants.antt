use Rattle.std.proofs.Common.{◌≡◌, true, take}
use Rattle.routing_model.specs.Lawful.{is_required_group}
use Rattle.penalty_cost.proofs.lawful.is_required_group.Given as goal

abbrev pub invariant-loop-place : goal.invariant-loop-place
invariant-loop-place l = is_required_group l.given (take l.place-index l.members) ≡ true
