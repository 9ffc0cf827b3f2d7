use Rattle.std.specs.Prelude.{◌≡◌, false, take}
use Rattle.std.specs.List.{list_any}
use Rattle.routing_model.specs.Routes.{Routes, is_visited}
use Rattle.least_insertions.specs.inside.Visited.{AreVisited}
use Rattle.least_insertions.proofs.missing.is_one_marked.Given as goal

abbrev pub invariant-loop-client : goal.invariant-loop-client
invariant-loop-client l = (routes : Routes) → AreVisited l.marks routes → list_any (is_visited routes) (take l.client-index l.clients) ≡ false
