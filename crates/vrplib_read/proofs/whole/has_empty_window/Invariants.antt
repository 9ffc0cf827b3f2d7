use Rattle.std.proofs.Common.{◌≡◌, false, take}
use Rattle.std.specs.List.{list_any}
use Rattle.vrplib_read.specs.inside.OfText.{OfText}
use Rattle.vrplib_model.specs.WholeText.{has_missed_shift}
use Rattle.vrplib_read.proofs.whole.has_empty_window.Given as goal

abbrev pub invariant-loop-vehicle_type : goal.invariant-loop-vehicle_type
invariant-loop-vehicle_type l = OfText l.reading (λ all. list_any (has_missed_shift l.reading.mode all) (take l.vehicle_type-index l.types) ≡ false)
