use Rattle.std.proofs.Common.{◌≡◌, map, All}
use Rattle.routing_model.specs.Cost.{solution_cost}
use Rattle.search_model.specs.Candidates.{candidates, client_candidates}
use Rattle.search_model.specs.Kinds.{all_kinds}
use Rattle.local_search.specs.inside.Stages.{Goes, Keeps, KeepsPairs, stage_of}
use Rattle.local_search.proofs.passes.later_passes.Given as goal

-- the descent from the present plan is left
abbrev pub invariant-loop : goal.invariant-loop
invariant-loop g l = record {
  goes : Goes l.fn.search.problem l.fn.search.weights all_kinds (candidates l.fn.search.problem l.neighbours l.order) (stage_of l.fn.search l.fn.memory (map (λ b. (goal.Operator-dyn g (b.vtable, b.value)).tally_of b.value) l.fn.kit)) (stage_of l.search l.memory (map (λ b. (goal.Operator-dyn g (b.vtable, b.value)).tally_of b.value) l.kit));
  keeps : Keeps l.fn.search.problem l.fn.search.weights (client_candidates l.fn.search.problem l.neighbours) (stage_of l.search l.memory (map (λ b. (goal.Operator-dyn g (b.vtable, b.value)).tally_of b.value) l.kit));
  pairs : KeepsPairs l.fn.search.problem l.fn.search.weights (stage_of l.search l.memory (map (λ b. (goal.Operator-dyn g (b.vtable, b.value)).tally_of b.value) l.kit));
  kinds : map (λ b. (goal.Operator-dyn g (b.vtable, b.value)).kind_of b.value) l.kit ≡ all_kinds;
  fits : All (λ b. (goal.Operator-dyn g (b.vtable, b.value)).fits b.value l.search.problem l.search.routes l.search.weights) l.kit;
}

-- each pass but the last lowers the cost
abbrev pub decreases-loop : goal.decreases-loop
decreases-loop g l = solution_cost l.search.problem l.search.weights l.search.routes
