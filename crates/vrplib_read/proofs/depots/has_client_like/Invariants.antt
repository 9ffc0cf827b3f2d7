use Rattle.std.proofs.Common.{◌≡◌, false}
use Rattle.std.specs.List.{list_any}
use Rattle.vrplib_model.specs.Entries.{counted}
use Rattle.vrplib_read.specs.inside.OfText.{OfText}
use Rattle.vrplib_model.specs.WholeText.{is_client_like}
use Rattle.vrplib_read.proofs.depots.has_client_like.Given as goal

abbrev pub invariant-loop-before : goal.invariant-loop-before
invariant-loop-before l = OfText l.reading (λ all. list_any (is_client_like l.reading.mode all) (counted 1 l.before) ≡ false)
