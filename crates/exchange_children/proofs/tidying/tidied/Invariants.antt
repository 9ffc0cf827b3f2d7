use Rattle.std.proofs.Common.{◌≡◌, ◌++◌, drop}
use Rattle.routing_model.specs.Tidy.{tidied, tidied_behind}
use Rattle.exchange_children.proofs.tidying.tidied.Given as goal

abbrev pub invariant-loop-at : goal.invariant-loop-at
invariant-loop-at l = l.list.items ++ tidied_behind l.behind_client (drop l.at l.visits) ≡ tidied l.visits
