use Rattle.std.proofs.Common.{◌≡◌, ◌+◌, ◌*◌, List, length, take}
use Rattle.std.specs.Prelude.{sum_by}
use Rattle.problem_data.specs.declared.visit.Visit.{Visit}
use Rattle.problem_data.specs.Reads.{RoseAtMost}
use Rattle.penalty_cost.specs.inside.Excess.{IsExcessWithin, distance_of, load_of, time_of}
use Rattle.penalty_cost.specs.inside.VisitSums.{at_plan}
use Rattle.penalty_cost.proofs.FleetSums.{vehicles}
use Rattle.penalty_cost.proofs.excess.plan_excess.Given as goal

abbrev pub invariant-loop-vehicle : goal.invariant-loop-vehicle
invariant-loop-vehicle l = record {
  load : l.excess.load ≡ sum_by (load_of l.given) (take l.vehicle (vehicles l.given l.routes));
  time : l.excess.time ≡ sum_by (time_of l.given) (take l.vehicle (vehicles l.given l.routes));
  distance : l.excess.distance ≡ sum_by (distance_of l.given) (take l.vehicle (vehicles l.given l.routes));
  short : IsExcessWithin (2 * l.vehicle + 3 * at_plan (λ place. 1) (take l.vehicle l.routes)) l.excess;
  reads : RoseAtMost (sum_by (λ (visits : List Visit). length visits + 1) (take l.vehicle l.routes)) l.fn.reads l.reads;
}
