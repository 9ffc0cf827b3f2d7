-- What a run of the command answers, prints and leaves.
use Rattle.std.specs.Prelude.{◌≡◌, ⊤, ℕ, ◌*◌, ◌^◌, List, [], ◌∷◌, Option, Some, None, slice_index_or}
use Rattle.outside_model.specs.Delivery.{Delivers}
use Rattle.outside_model.specs.Files.{Load}
use Rattle.outside_model.specs.Sinks.{IsGiven, IsUntouched, SinkOfCall}
use Rattle.move_core.specs.declared.tally.Tally.{Tally}
use Rattle.batch_run.specs.Loads.{FilesOfCall, IsAnswer}
use Rattle.command_model.specs.declared.options.Options.{Options}
use Rattle.command_model.specs.Command.{effects_of, refused_words}
use Rattle.command_model.specs.Kits.{Searched, searched}
use Rattle.command_model.specs.Outcomes.{Outcome, outcome_of, IsFeasibleOutcome}
use Rattle.command_model.specs.PlainSearch.{options_of, plain_search}
use Rattle.command_model.specs.Words.{Asked, base_name}
use Rattle.pyvrp.specs.Solving.{RoseInRun}

-- the most bytes of an instance: 64 MiB
abbrev pub largest_file : ℕ
largest_file = 64 * 2 ^ 20

-- one kit for each instance that was searched, in order: the counts of its operators rose, from those of the kit that the instance was
-- given, over the descents of the instance's run
abbrev pub AreUsedKits : Options → List (List Tally) → List Searched → List (List Tally) → Type 0
AreUsedKits options before [] [] = ⊤
AreUsedKits options before (s ∷ rest) (kit ∷ kits) = RoseInRun options s.problem (slice_index_or before s.kit []) kit × AreUsedKits options before rest kits
AreUsedKits options before _ _ = ⊥

-- what a call with right words answers, prints and leaves; kits are told by the counts of their operators, before and after
pub record RunsInstance (asked : Asked) (files : FilesOfCall) (out err : SinkOfCall) (before after : List (List Tally)) (status : ℕ) : Type 0 where
  pub load : Load
  pub outcome : Outcome
  -- the load is the files' answer, within the limit
  pub answer : IsAnswer largest_file files asked.path load
  -- the outcome is that of the plain search
  pub comes : outcome ≡ outcome_of (plain_search (options_of asked)) load
  -- what is printed as feasible is feasible, at its cost
  pub feasible : IsFeasibleOutcome outcome
  pub effects : Delivers (effects_of ((base_name asked.path, outcome) ∷ [])) out err status
  -- the kits that are handed back are those that searched
  pub kits : AreUsedKits (options_of asked) before (searched (outcome ∷ [])) after

-- what a call with wrong words does: it says so, and nothing else
pub record RefusesWords (files : FilesOfCall) (out err : SinkOfCall) (after : List (List Tally)) (status : ℕ) : Type 0 where
  pub answered : status ≡ refused_words.status
  pub no_fault : files.faults_after ≡ files.faults_before
  pub kept : files.holding_after ≡ files.holding_before
  pub out_untouched : IsUntouched out
  pub err_given : IsGiven refused_words.err err
  pub no_kit : after ≡ []

-- what a call does that memory suffices for
abbrev pub Runs : Option Asked → FilesOfCall → SinkOfCall → SinkOfCall → List (List Tally) → List (List Tally) → ℕ → Type 0
Runs None files out err before after status = RefusesWords files out err after status
Runs (Some asked) files out err before after status = RunsInstance asked files out err before after status

-- the same with some kits
abbrev pub RunsWithKits : Option Asked → FilesOfCall → SinkOfCall → SinkOfCall → ℕ → Type 0
RunsWithKits asked files out err status = (before : List (List Tally)) × (after : List (List Tally)) × Runs asked files out err before after status
