use Rattle.std.proofs.Common.{◌≡◌, All, map, length}
use Rattle.problem_data.specs.Valid.{IsValidPlace}
use Rattle.vrplib_model.specs.Entries.{counted, coordinates}
use Rattle.vrplib_read.specs.inside.OfText.{OfText}
use Rattle.vrplib_read.proofs.entries.places.Given as goal

abbrev pub invariant-loop-before : goal.invariant-loop-before
invariant-loop-before l = record {
  placed : OfText l.reading (λ all. l.places.items ≡ map (coordinates l.reading.mode all) (counted 1 l.before));
  valid : All IsValidPlace l.places.items;
  count : length l.places.items ≡ l.before;
}
