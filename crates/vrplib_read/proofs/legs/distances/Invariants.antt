use Rattle.std.proofs.Common.{◌≡◌, map, take}
use Rattle.std.specs.List.{flat_map}
use Rattle.vrplib_read.specs.inside.OfText.{place_leg}
use Rattle.vrplib_read.proofs.legs.distances.Given as goal

abbrev pub invariant-loop-from : goal.invariant-loop-from
invariant-loop-from l = l.legs.items ≡ flat_map (λ a. map (place_leg l.mode a) l.places) (take l.from-index l.places)
