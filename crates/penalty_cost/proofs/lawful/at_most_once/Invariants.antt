use Rattle.std.proofs.Common.{◌≡◌, ℕ, ◌<◌, ◌≤◌, true}
use Rattle.std.specs.Prelude.{nat_le}
use Rattle.routing_model.specs.Routes.{Routes, visit_count}
use Rattle.penalty_cost.specs.inside.Counts.{IsCounted}
use Rattle.penalty_cost.proofs.lawful.at_most_once.Given as goal

abbrev pub invariant-loop-place : goal.invariant-loop-place
invariant-loop-place l = (routes : Routes) → IsCounted (visit_count routes) l.counts → (k : ℕ) → l.depots ≤ k → k < l.place → nat_le (visit_count routes k) 1 ≡ true
