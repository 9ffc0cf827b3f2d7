use Rattle.std.proofs.Common.{◌≡◌, drop}
use Rattle.routing_model.specs.Lawful.{is_required_group}
use Rattle.random_plans.proofs.choosing.is_group_required.Given as goal

-- the members that are left decide
abbrev pub invariant-loop-place : goal.invariant-loop-place
invariant-loop-place l = is_required_group l.given (drop l.place-index l.members) ≡ is_required_group l.given l.members
