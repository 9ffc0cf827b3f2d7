use Rattle.std.proofs.Common.{◌≡◌, All, length, map}
use Rattle.search_model.specs.Kinds.{all_kinds}
use Rattle.pyvrp_program.specs.contracts.program.are_kits_for.{dyn-1-ghosts}
use Rattle.pyvrp_program.proofs.program.run.OwnLists.{own-1, lawful-own-1}
use Rattle.pyvrp_program.proofs.program.run.Hidden.{sends-own-1}
use Rattle.pyvrp_program.proofs.program.run.Given as goal

-- so many kits, all of an operator of each kind
abbrev pub invariant-loop : goal.invariant-loop
invariant-loop g l = record {
  count : length l.kits.items ≡ l.counter;
  kinds : All (λ kit. map (λ b. ((dyn-1-ghosts (own-1, lawful-own-1, sends-own-1)).0.entry b.vtable).1.kind_of b.value) kit.items ≡ all_kinds) l.kits.items;
}
