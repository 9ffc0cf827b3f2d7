use Rattle.std.proofs.Common.{◌≡◌, ℕ, ◌<◌, ◌≤◌, true, cond}
use Rattle.routing_model.specs.Lawful.{is_required}
use Rattle.routing_model.specs.Routes.{Routes, is_visited, visit_count}
use Rattle.penalty_cost.specs.inside.Counts.{IsCounted}
use Rattle.penalty_cost.proofs.lawful.serves_required.Given as goal

abbrev pub invariant-loop-place : goal.invariant-loop-place
invariant-loop-place l = (routes : Routes) → IsCounted (visit_count routes) l.counts → (k : ℕ) → l.depots ≤ k → k < l.place →
    cond (is_required l.given k) (is_visited routes k) true ≡ true
