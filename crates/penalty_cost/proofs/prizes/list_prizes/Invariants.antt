use Rattle.std.proofs.Common.{◌≡◌, ◌*◌, ◌≤◌, take}
use Rattle.problem_data.specs.Limits.{largest}
use Rattle.penalty_cost.specs.inside.VisitSums.{at_visits, prize_at}
use Rattle.penalty_cost.proofs.prizes.list_prizes.Given as goal

abbrev pub invariant-loop-visit : goal.invariant-loop-visit
invariant-loop-visit l = record {
  prizes : l.prizes ≡ at_visits (prize_at l.given) (take l.visit-index l.visits);
  short : l.prizes ≤ l.visit-index * largest;
}
