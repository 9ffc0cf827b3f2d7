use Rattle.std.proofs.Common.{◌≡◌, map}
use Rattle.vrplib_model.specs.Entries.{counted}
use Rattle.vrplib_model.specs.Meaning.{depot}
use Rattle.vrplib_read.specs.inside.OfText.{OfText}
use Rattle.vrplib_read.proofs.entries.depots.Given as goal

abbrev pub invariant-loop-before : goal.invariant-loop-before
invariant-loop-before l = OfText l.reading (λ all. l.depots.items ≡ map (depot l.reading.mode all) (counted 1 l.before))
