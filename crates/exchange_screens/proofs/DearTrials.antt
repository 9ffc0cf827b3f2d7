-- Trials whose new lists cost no less give nothing.
use Rattle.std.specs.Prelude.{None}
use Rattle.move_core.specs.Searches.{SearchState}
use Rattle.list_changes.specs.declared.change.Change.{Change}
use Rattle.list_changes.specs.Changes.{CostsNoLess}
use Rattle.list_changes.proofs.DearMoves.{dear-move}
use Rattle.exchange_screens.specs.declared.trial.Trial.{Trial}
use Rattle.exchange_screens.specs.Trials.{IsAnswer, IsChange, candidate_of}

pub dear-answer : (s : SearchState) (trial : Trial) (change : Change) → IsChange s trial change → CostsNoLess s change → IsAnswer s trial None
dear-answer s trial change is dear = dear-move s (candidate_of trial) change is.move dear
