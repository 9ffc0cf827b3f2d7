use Rattle.std.proofs.Common.{◌≡◌, All, length, map}
use Rattle.search_model.specs.Kinds.{all_kinds}
use Rattle.recording_operators.specs.contracts.runs.are_kits.{dyn-1-ghosts}
use Rattle.recording_operators.proofs.runs.recorded_run.OwnLists.{own-1, lawful-own-1}
use Rattle.recording_operators.proofs.runs.recorded_run.Hidden.{sends-own-1}
use Rattle.recording_operators.proofs.runs.recorded_run.Given as goal

-- so many kits, all of an operator of each kind
abbrev pub invariant-loop : goal.invariant-loop
invariant-loop g l = record {
  count : length l.kits.items ≡ l.counter;
  kinds : All (λ kit. map (λ b. ((dyn-1-ghosts (own-1, lawful-own-1, sends-own-1)).0.entry b.vtable).1.kind_of b.value) kit.items ≡ all_kinds) l.kits.items;
}
