use Rattle.std.proofs.Common.{◌≡◌, map, All, take}
use Rattle.std.specs.Prelude.{flat_map}
use Rattle.search_model.specs.Candidates.{neighbour_candidates}
use Rattle.search_model.specs.Kinds.{all_kinds}
use Rattle.search_model.specs.Neighbours.{near_list}
use Rattle.local_search.specs.inside.Stages.{Tried, stage_of}
use Rattle.local_search.proofs.turns.neighbour_turn.Given as goal

-- the first neighbours were tried
abbrev pub invariant-loop-at : goal.invariant-loop-at
invariant-loop-at g l = record {
  tried : Tried l.fn.search.problem l.fn.search.weights all_kinds l.each (flat_map (neighbour_candidates l.client) (take l.at (near_list l.neighbours l.client)))
      (stage_of l.fn.search l.fn.memory (map (λ b. (goal.Operator-dyn g (b.vtable, b.value)).tally_of b.value) l.fn.kit)) (stage_of l.search l.memory (map (λ b. (goal.Operator-dyn g (b.vtable, b.value)).tally_of b.value) l.kit));
  moments : l.memory.moments ≡ l.fn.memory.moments;
  kinds : map (λ b. (goal.Operator-dyn g (b.vtable, b.value)).kind_of b.value) l.kit ≡ all_kinds;
  fits : All (λ b. (goal.Operator-dyn g (b.vtable, b.value)).fits b.value l.search.problem l.search.routes l.search.weights) l.kit;
}
