use Rattle.std.proofs.Common.{take}
use Rattle.penalty_cost.specs.inside.Counts.{CountsVisits}
use Rattle.penalty_cost.proofs.lawful.count_visits.Given as goal

abbrev pub invariant-loop-visit : goal.invariant-loop-visit
invariant-loop-visit l = CountsVisits l.initial.table (take l.visit-index l.visits) l.table
