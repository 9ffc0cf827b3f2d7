use Rattle.std.proofs.Common.{◌≡◌, ◌+◌, ◌-◌, ◌++◌, length, map}
use Rattle.std.specs.List.{range_with_len}
use Rattle.problem_data.specs.Places.{depot_count}
use Rattle.search_model.specs.Neighbours.{neighbours, neighbours_of}
use Rattle.granular.proofs.NeighbourLists.{items_of}
use Rattle.granular.proofs.near_clients.lists_of.Given as goal

-- the lists so far and those of the clients from here on are all lists
abbrev pub invariant-loop-index : goal.invariant-loop-index
invariant-loop-index l =
    items_of l.lists.items ++ map (neighbours_of l.given l.count l.weights.wait l.weights.warp) (range_with_len (depot_count l.given + l.index) (length l.given.clients - l.index))
    ≡ neighbours l.given l.count l.weights.wait l.weights.warp
