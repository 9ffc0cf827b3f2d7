use Rattle.std.proofs.Common.{◌≡◌, false, map, take}
use Rattle.std.specs.List.{list_any}
use Rattle.vrplib_read.specs.inside.OfText.{scaled_profile}
use Rattle.vrplib_model.specs.WholeText.{has_long_leg}
use Rattle.vrplib_read.proofs.profiles.profiles_in.Given as goal

abbrev pub invariant-loop-k : goal.invariant-loop-k
invariant-loop-k l = record {
  made : l.profiles.items ≡ map (scaled_profile l.size l.base) (take l.k l.rows.rows);
  short : list_any has_long_leg (map (scaled_profile l.size l.base) (take l.k l.rows.rows)) ≡ false;
}
