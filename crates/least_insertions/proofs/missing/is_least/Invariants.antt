use Rattle.std.specs.Prelude.{◌≡◌, nat_le, take, true}
use Rattle.std.specs.List.{list_all}
use Rattle.least_insertions.proofs.missing.is_least.Given as goal

abbrev pub invariant-loop-other : goal.invariant-loop-other
invariant-loop-other l = list_all (nat_le l.client) (take l.other-index l.clients) ≡ true
