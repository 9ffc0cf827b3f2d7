use Rattle.std.proofs.Common.{◌≡◌, ◌*◌, ◌≤◌, take}
use Rattle.problem_data.specs.Limits.{largest, most_visits}
use Rattle.penalty_cost.specs.inside.VisitSums.{at_plan, prize_at}
use Rattle.penalty_cost.proofs.prizes.plan_prizes.Given as goal

abbrev pub invariant-loop-visits : goal.invariant-loop-visits
invariant-loop-visits l = record {
  prizes : l.prizes ≡ at_plan (prize_at l.given) (take l.visits-index l.routes);
  short : l.prizes ≤ l.visits-index * (most_visits * largest);
}
