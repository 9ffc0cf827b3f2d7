use Rattle.std.proofs.Common.{◌≤◌, take}
use Rattle.penalty_cost.specs.inside.Counts.{CountsMembers}
use Rattle.penalty_cost.proofs.lawful.visited_members.Given as goal

abbrev pub invariant-loop-place : goal.invariant-loop-place
invariant-loop-place l = record {
  few : l.visited ≤ l.place-index;
  counts : CountsMembers l.counts (take l.place-index l.members) l.visited;
}
