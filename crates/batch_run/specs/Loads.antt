-- What a call gets from files that it loads from.
use Rattle.std.specs.Prelude.{◌≡◌, ℕ, false, List, [], ◌∷◌, ◌++◌, Option}
use Rattle.outside_model.specs.Files.{Load, failed, IsTold}
use Rattle.outside_model.specs.Holding.{Holding}
use Rattle.batch_run.specs.declared.files.FileFault.{FileFault}
use Rattle.batch_run.specs.Faults.{fault}

-- what the files of a call hold, where they tell it, and their faults, before it and after
pub record FilesOfCall : Type 0 where
  pub holding_before : Option Holding
  pub holding_after : Option Holding
  pub faults_before : List FileFault
  pub faults_after : List FileFault

-- the same, from what a call's files tell
abbrev pub files_of : Option Holding → Option Holding → List FileFault → List FileFault → FilesOfCall
files_of holding_before holding_after faults_before faults_after = record {
  holding_before = holding_before;
  holding_after = holding_after;
  faults_before = faults_before;
  faults_after = faults_after;
}

-- the entries that the answer to a load of a name adds to the list of faults
abbrev pub faults_of_answer : List ℕ → Load → List FileFault
faults_of_answer name failed = fault false name ∷ []
faults_of_answer name _ = []

-- the answer to the one load of a call is what the files tell; a fault has an entry in their list, and is the only one; and what
-- they hold stays
pub record IsAnswer (limit : ℕ) (files : FilesOfCall) (name : List ℕ) (load : Load) : Type 0 where
  pub told : IsTold limit files.holding_before name load
  pub faults : files.faults_after ≡ files.faults_before ++ faults_of_answer name load
  pub kept : files.holding_after ≡ files.holding_before
