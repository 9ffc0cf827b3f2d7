use Rattle.std.proofs.Common.{◌≡◌, take, map}
use Rattle.routing_model.specs.Lawful.{is_required_group}
use Rattle.plan_tables.proofs.problem_tables.required_groups.Given as goal

abbrev pub invariant-loop-members : goal.invariant-loop-members
invariant-loop-members l = l.required.items ≡ map (is_required_group l.given) (take l.members-index l.groups)
