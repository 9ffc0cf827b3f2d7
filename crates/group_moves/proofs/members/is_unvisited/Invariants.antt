use Rattle.std.proofs.Common.{◌≡◌, true, take}
use Rattle.group_moves.specs.inside.Groups.{are_unvisited}
use Rattle.group_moves.proofs.members.is_unvisited.Given as goal

abbrev pub invariant-loop-member : goal.invariant-loop-member
invariant-loop-member l = are_unvisited l.search.routes (take l.member-index l.members) ≡ true
