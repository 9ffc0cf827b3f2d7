use Rattle.std.proofs.Common.{◌≡◌, map, take}
use Rattle.random_plans.proofs.ordering.places_of_keys.Given as goal

-- the places so far are those of the first keys
abbrev pub invariant-loop-key : goal.invariant-loop-key
invariant-loop-key l = l.places.items ≡ map (λ key. key.1) (take l.key-index l.keys)
