-- What the program makes of an instance on the way to its texts.
use Rattle.std.specs.Prelude.{◌≡◌, ℕ, List, [], ◌∷◌}
use Rattle.outside_model.specs.Delivery.{Effects}
use Rattle.outside_model.specs.Files.{Load, loaded}
use Rattle.move_core.specs.declared.tally.Tally.{Tally}
use Rattle.batch_run.specs.Loads.{FilesOfCall, IsAnswer}
use Rattle.command_model.specs.declared.options.Options.{Options}
use Rattle.command_model.specs.Command.{effects_of}
use Rattle.command_model.specs.Kits.{searched}
use Rattle.command_model.specs.Outcomes as model
use Rattle.command_model.specs.PlainSearch.{options_of, plain_search}
use Rattle.command_model.specs.Words.{Asked, base_name}
use Rattle.pyvrp.specs.declared.outcome.Instance.{Instance}
use Rattle.pyvrp.specs.declared.run.Texts.{Texts}
use Rattle.pyvrp.specs.inside.Report.{StandsFor}
use Rattle.pyvrp.specs.Run.{AreUsedKits, largest_file}

-- what comes of an instance's load, as the program keeps it, and of the kits
pub record ComesOfLoad (options : Options) (load : Load) (before after : List (List Tally)) (shown : Instance) : Type 0 where
  pub outcome : model.Outcome
  pub comes : outcome ≡ model.outcome_in options.mode (plain_search options) load
  pub feasible : model.IsFeasibleOutcome outcome
  pub stands : StandsFor outcome shown
  pub kits : AreUsedKits options before (searched (outcome ∷ [])) after

-- what comes of its bytes
abbrev pub ComesOfBytes : Options → List ℕ → List (List Tally) → List (List Tally) → Instance → Type 0
ComesOfBytes options bytes before after shown = ComesOfLoad options (loaded bytes) before after shown

-- what comes of a path: the files' answer to its load, and the outcome
pub record ComesOfPath (options : Options) (path : List ℕ) (files : FilesOfCall) (before after : List (List Tally)) (shown : Instance) : Type 0 where
  pub load : Load
  pub answer : IsAnswer largest_file files path load
  pub comes : ComesOfLoad options load before after shown

-- the texts and the status are these effects
pub record IsEffects (effects : Effects) (texts : Texts) : Type 0 where
  pub out_is : texts.out.items ≡ effects.out
  pub err_is : texts.err.items ≡ effects.err
  pub status_is : texts.status ≡ effects.status

-- the texts are those of a path's outcome
abbrev pub TellsEffects : List ℕ → Instance → Texts → Type 0
TellsEffects path shown texts = (outcome : model.Outcome) → StandsFor outcome shown → IsEffects (effects_of ((base_name path, outcome) ∷ [])) texts

-- the texts are those of what comes of the instance that is asked for
pub record HasTextsOf (asked : Asked) (files : FilesOfCall) (before after : List (List Tally)) (texts : Texts) : Type 0 where
  pub load : Load
  pub outcome : model.Outcome
  pub answer : IsAnswer largest_file files asked.path load
  pub comes : outcome ≡ model.outcome_of (plain_search (options_of asked)) load
  pub feasible : model.IsFeasibleOutcome outcome
  pub kits : AreUsedKits (options_of asked) before (searched (outcome ∷ [])) after
  pub effects : IsEffects (effects_of ((base_name asked.path, outcome) ∷ [])) texts
