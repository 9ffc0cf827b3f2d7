use Rattle.std.proofs.Common.{◌≡◌, ◌-◌, ◌++◌}
use Rattle.std.specs.List.{range_with_len}
use Rattle.granular.proofs.KeyedPlaces.{keys_by}
use Rattle.granular.proofs.nearest.keyed_others.Given as goal

-- the keys so far and those of the clients from here on are those of all clients
abbrev pub invariant-loop-other : goal.invariant-loop-other
invariant-loop-other l =
    l.keys.items ++ keys_by l.nears l.count l.clients.start l.index (range_with_len l.other (l.count - l.other))
    ≡ keys_by l.nears l.count l.clients.start l.index (range_with_len 0 l.count)
