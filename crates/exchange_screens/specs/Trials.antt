-- What is tried: an exchange of a client with a target.
use Rattle.std.specs.Prelude.{◌≡◌, ℕ, ◌<◌, ◌≤◌, ⊤, Option, None, length, slice_index_or}
use Rattle.search_model.specs.declared.candidate.Candidate.{Candidate}
use Rattle.search_model.specs.declared.candidate.Candidate.TheVariants.{Node}
use Rattle.search_model.specs.declared.candidate.Target.TheVariants.{StartOf}
use Rattle.search_model.specs.declared.kind.Kind.TheVariants.{Exchange10}
use Rattle.search_model.specs.Kinds.{exchange_kinds}
use Rattle.gain_model.specs.Gains.{GainState}
use Rattle.gain_model.specs.Operators.{bettered}
use Rattle.routing_model.specs.Routes.{list_at}
use Rattle.move_core.specs.Searches.{SearchState}
use Rattle.list_changes.specs.declared.change.Change.{Change}
use Rattle.list_changes.specs.declared.change.Change.TheVariants.{One, Two}
use Rattle.list_changes.specs.declared.layout.Layout.{Layout}
use Rattle.list_changes.specs.Layouts.{runs_of}
use Rattle.list_changes.specs.Moves.{IsAnswerTo, IsMove, IsVehicleOf}
use Rattle.exchange_screens.specs.declared.trial.Trial.{Trial}
use Rattle.exchange_screens.specs.Exchanges.{exchange_kind}

-- the candidate
abbrev pub candidate_of : Trial → Candidate
candidate_of trial = Node (exchange_kind trial.n trial.m) trial.client trial.target

-- the answer to it
abbrev pub IsAnswer : SearchState → Trial → Option GainState → Type 0
IsAnswer s trial found = IsAnswerTo s (candidate_of trial) found

-- a vehicle is the candidate's
abbrev pub IsOwn : SearchState → Trial → ℕ → Type 0
IsOwn s trial vehicle = IsVehicleOf s (candidate_of trial) vehicle

-- at most three visits come from another list
abbrev pub most_lent : ℕ
most_lent = 3

pub record LendFew (s : SearchState) (first second : ℕ) (one two : Layout) : Type 0 where
  pub first_few : length (runs_of (list_at s.routes second) one) ≤ most_lent
  pub second_few : length (runs_of (list_at s.routes first) two) ≤ most_lent

abbrev pub LendsFew : SearchState → Change → Type 0
LendsFew s (One vehicle layout) = ⊤
LendsFew s (Two first second one two) = LendFew s first second one two

-- the change of a trial: its candidate makes it, and few visits come from another list
pub record IsChange (s : SearchState) (trial : Trial) (change : Change) : Type 0 where
  pub move : IsMove s (candidate_of trial) change
  pub few : LendsFew s change

-- no exchange to the start before a client gives anything
abbrev pub NoStart : SearchState → ℕ → Type 0
NoStart s client =
    (at u : ℕ) → at < 9 → bettered s.problem s.weights s.routes (Node (slice_index_or exchange_kinds at Exchange10) u (StartOf client)) ≡ None
