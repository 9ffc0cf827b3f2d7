-- What the list of files' faults grows by.
use Rattle.std.specs.Prelude.{ℕ, Bool, true, false, List, [], ◌∷◌, Result, Err}
use Rattle.batch_run.specs.declared.files.FileFault.{FileFault}
use Rattle.batch_run.specs.declared.files.LoadFault.{LoadFault}
use Rattle.batch_run.specs.declared.files.LoadFault.TheVariants.{Failed}
use Rattle.batch_run.specs.declared.files.StoreFault.{StoreFault}
use Rattle.batch_run.specs.declared.files.StoreFault.TheVariants as store

-- a load or a store of a name that failed
abbrev pub fault : Bool → List ℕ → FileFault
fault is_store name = record { store = is_store; name = name }

-- the entries that a load adds
abbrev pub faults_of_load : {T : Type 0} → List ℕ → Result T LoadFault → List FileFault
faults_of_load name (Err Failed) = fault false name ∷ []
faults_of_load name _ = []

-- the entries that a store adds
abbrev pub faults_of_store : {T : Type 0} → List ℕ → Result T StoreFault → List FileFault
faults_of_store name (Err store.Failed) = fault true name ∷ []
faults_of_store name _ = []
