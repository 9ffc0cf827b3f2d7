use Rattle.std.proofs.Common.{◌≡◌, map, All, take}
use Rattle.std.specs.Prelude.{flat_map}
use Rattle.search_model.specs.Candidates.{client_candidates}
use Rattle.search_model.specs.Kinds.{all_kinds}
use Rattle.local_search.specs.inside.Stages.{Keeps, Tried, stage_of}
use Rattle.local_search.proofs.passes.client_turns.Given as goal

-- the first clients had their turns
abbrev pub invariant-loop-client : goal.invariant-loop-client
invariant-loop-client g l = record {
  tried : Tried l.fn.search.problem l.fn.search.weights all_kinds l.each (flat_map (client_candidates l.fn.search.problem l.neighbours) (take l.client-index l.order))
      (stage_of l.fn.search l.fn.memory (map (λ b. (goal.Operator-dyn g (b.vtable, b.value)).tally_of b.value) l.fn.kit)) (stage_of l.search l.memory (map (λ b. (goal.Operator-dyn g (b.vtable, b.value)).tally_of b.value) l.kit));
  keeps : Keeps l.fn.search.problem l.fn.search.weights (client_candidates l.fn.search.problem l.neighbours) (stage_of l.search l.memory (map (λ b. (goal.Operator-dyn g (b.vtable, b.value)).tally_of b.value) l.kit));
  moments : l.memory.moments.pairs ≡ l.fn.memory.moments.pairs;
  kinds : map (λ b. (goal.Operator-dyn g (b.vtable, b.value)).kind_of b.value) l.kit ≡ all_kinds;
  fits : All (λ b. (goal.Operator-dyn g (b.vtable, b.value)).fits b.value l.search.problem l.search.routes l.search.weights) l.kit;
}
