use Rattle.std.proofs.Common.{take}
use Rattle.plan_tables.specs.inside.Marks.{FreesList}
use Rattle.plan_tables.proofs.spots.free_list.Given as goal

abbrev pub invariant-loop-visit : goal.invariant-loop-visit
invariant-loop-visit l = FreesList (take l.visit-index l.visits) l.fn.spots l.spots
