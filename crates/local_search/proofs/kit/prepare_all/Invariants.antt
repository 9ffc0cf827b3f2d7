use Rattle.std.proofs.Common.{◌≡◌, map, All, take}
use Rattle.local_search.proofs.kit.prepare_all.Given as goal

abbrev pub invariant-loop-op : goal.invariant-loop-op
invariant-loop-op g l = record {
  kinds : map (λ b. (goal.Operator-dyn g (b.vtable, b.value)).kind_of b.value) l.kit ≡ map (λ b. (goal.Operator-dyn g (b.vtable, b.value)).kind_of b.value) l.fn.kit;
  fits : All (λ b. (goal.Operator-dyn g (b.vtable, b.value)).fits b.value l.search.problem l.search.routes l.search.weights) (take l.op-index l.kit);
  tallies : map (λ b. (goal.Operator-dyn g (b.vtable, b.value)).tally_of b.value) l.kit ≡ map (λ b. (goal.Operator-dyn g (b.vtable, b.value)).tally_of b.value) l.fn.kit;
}
