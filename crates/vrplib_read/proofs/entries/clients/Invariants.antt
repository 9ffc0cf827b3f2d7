use Rattle.std.proofs.Common.{◌≡◌, ◌+◌, map}
use Rattle.vrplib_model.specs.Entries.{counted}
use Rattle.vrplib_model.specs.Meaning.{client}
use Rattle.vrplib_read.specs.inside.OfText.{OfText}
use Rattle.vrplib_read.proofs.entries.clients.Given as goal

abbrev pub invariant-loop-before : goal.invariant-loop-before
invariant-loop-before l = OfText l.reading (λ all. l.clients.items ≡ map (client l.reading.mode all) (counted (l.depots + 1) l.before))
