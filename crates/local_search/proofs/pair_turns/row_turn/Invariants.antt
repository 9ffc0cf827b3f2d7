use Rattle.std.proofs.Common.{◌≡◌, ◌+◌, ◌-◌, map, All, take}
use Rattle.std.specs.List.{range_with_len}
use Rattle.std.specs.Prelude.{flat_map}
use Rattle.problem_data.specs.Places.{vehicle_count}
use Rattle.search_model.specs.Kinds.{all_kinds}
use Rattle.local_search.specs.inside.Stages.{KeepsPairs, Tried, stage_of}
use Rattle.local_search.specs.inside.Turns.{pair_candidates}
use Rattle.local_search.proofs.pair_turns.row_turn.Given as goal

-- the pairs with the first later vehicles had their turns
abbrev pub invariant-loop-second : goal.invariant-loop-second
invariant-loop-second g l = record {
  tried : Tried l.fn.search.problem l.fn.search.weights all_kinds l.each (flat_map (pair_candidates l.first) (take (l.second - (l.first + 1)) (range_with_len (l.first + 1) (vehicle_count l.fn.search.problem - (l.first + 1)))))
      (stage_of l.fn.search l.fn.memory (map (λ b. (goal.Operator-dyn g (b.vtable, b.value)).tally_of b.value) l.fn.kit)) (stage_of l.search l.memory (map (λ b. (goal.Operator-dyn g (b.vtable, b.value)).tally_of b.value) l.kit));
  pairs : KeepsPairs l.fn.search.problem l.fn.search.weights (stage_of l.search l.memory (map (λ b. (goal.Operator-dyn g (b.vtable, b.value)).tally_of b.value) l.kit));
  moments : l.memory.moments.clients ≡ l.fn.memory.moments.clients;
  kinds : map (λ b. (goal.Operator-dyn g (b.vtable, b.value)).kind_of b.value) l.kit ≡ all_kinds;
  fits : All (λ b. (goal.Operator-dyn g (b.vtable, b.value)).fits b.value l.search.problem l.search.routes l.search.weights) l.kit;
}
