use Rattle.std.proofs.Common.{◌≡◌, All, length, map}
use Rattle.search_model.specs.Kinds.{all_kinds}
use Rattle.counting_operators.specs.contracts.runs.are_kits_for.{dyn-1-ghosts}
use Rattle.counting_operators.proofs.runs.asks_an_operator_of_ones_own_and_drops_it_once.OwnLists.{own-1, lawful-own-1}
use Rattle.counting_operators.proofs.runs.asks_an_operator_of_ones_own_and_drops_it_once.Hidden.{sends-own-1}
use Rattle.counting_operators.proofs.runs.asks_an_operator_of_ones_own_and_drops_it_once.Given as goal

-- so many kits, all of an operator of each kind
abbrev pub invariant-loop-at : goal.invariant-loop-at
invariant-loop-at g l = record {
  count : length l.kits.items ≡ l.at;
  kinds : All (λ kit. map (λ b. ((dyn-1-ghosts (own-1, lawful-own-1, sends-own-1)).0.entry b.vtable).1.kind_of b.value) kit.items ≡ all_kinds) l.kits.items;
}
