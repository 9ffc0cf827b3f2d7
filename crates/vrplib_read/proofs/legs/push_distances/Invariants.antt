use Rattle.std.proofs.Common.{◌≡◌, ◌++◌, map, take}
use Rattle.vrplib_read.specs.inside.OfText.{place_leg}
use Rattle.vrplib_read.proofs.legs.push_distances.Given as goal

abbrev pub invariant-loop-to : goal.invariant-loop-to
invariant-loop-to l = l.legs.items ≡ l.initial.legs.items ++ map (place_leg l.mode l.from) (take l.to-index l.places)
