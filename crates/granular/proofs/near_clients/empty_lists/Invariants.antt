use Rattle.std.proofs.Common.{◌≡◌, [], replicate}
use Rattle.granular.proofs.NeighbourLists.{items_of}
use Rattle.granular.proofs.near_clients.empty_lists.Given as goal

-- so many lists, all empty
abbrev pub invariant-loop : goal.invariant-loop
invariant-loop l = items_of l.lists.items ≡ replicate l.counter []
