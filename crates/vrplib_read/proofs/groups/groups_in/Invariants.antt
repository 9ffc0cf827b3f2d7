use Rattle.std.proofs.Common.{◌≡◌, map, take}
use Rattle.vrplib_read.specs.inside.OfText.{group_places}
use Rattle.vrplib_read.proofs.groups.groups_in.Given as goal

abbrev pub invariant-loop-k : goal.invariant-loop-k
invariant-loop-k l = l.groups.items ≡ map group_places (take l.k l.rows.rows)
