use Rattle.std.proofs.Common.{◌≡◌, false, take}
use Rattle.std.specs.List.{list_any}
use Rattle.vrplib_read.specs.inside.OfText.{is_long, scaled}
use Rattle.vrplib_read.proofs.profiles.scaled_legs.Given as goal

abbrev pub invariant-loop-leg : goal.invariant-loop-leg
invariant-loop-leg l = record {
  made : l.legs.items ≡ scaled l.factor (take l.leg-index l.base);
  short : list_any is_long (scaled l.factor (take l.leg-index l.base)) ≡ false;
}
