use Rattle.std.proofs.Common.{◌≡◌, map, All, take, drop}
use Rattle.routing_model.specs.Routes.{Routes}
use Rattle.local_search.specs.inside.Kits.{with_present_list}
use Rattle.local_search.proofs.kit.changed_all.Given as goal

abbrev pub invariant-loop-op : goal.invariant-loop-op
invariant-loop-op g l = record {
  kinds : map (λ b. (goal.Operator-dyn g (b.vtable, b.value)).kind_of b.value) l.kit ≡ map (λ b. (goal.Operator-dyn g (b.vtable, b.value)).kind_of b.value) l.fn.kit;
  done : (routes : Routes) → All (λ b. (goal.Operator-dyn g (b.vtable, b.value)).fits b.value l.search.problem routes l.search.weights) l.fn.kit → All (λ b. (goal.Operator-dyn g (b.vtable, b.value)).fits b.value l.search.problem (with_present_list l.search.routes l.vehicle routes) l.search.weights) (take l.op-index l.kit);
  left : drop l.op-index l.kit ≡ drop l.op-index l.fn.kit;
  tallies : map (λ b. (goal.Operator-dyn g (b.vtable, b.value)).tally_of b.value) l.kit ≡ map (λ b. (goal.Operator-dyn g (b.vtable, b.value)).tally_of b.value) l.fn.kit;
}
