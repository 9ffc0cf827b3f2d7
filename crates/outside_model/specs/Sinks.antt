-- What sinks take, and what a call leaves in one. Sinks may not tell what was written.
use Rattle.std.specs.Prelude.{◌≡◌, ℕ, ◌-◌, ◌^◌, ◌<◌, ◌≤◌, ◌⊎◌, List, ◌++◌, length, take, Option, Some, None, MatchOption}

-- a count of faults rose, or stands at its last value
abbrev pub Rose : ℕ → ℕ → Type 0
Rose before after = (before < after) ⊎ (after ≡ 2 ^ 64 - 1)

-- what a sink tells of what was written grew by these bytes
abbrev pub Appended : Option (List ℕ) → Option (List ℕ) → List ℕ → Type 0
Appended before after bytes = MatchOption before (after ≡ None) (λ held. after ≡ Some (held ++ bytes))

-- it grew by a prefix of these bytes
abbrev pub AppendedPart : Option (List ℕ) → Option (List ℕ) → List ℕ → Type 0
AppendedPart before after bytes =
    MatchOption before (after ≡ None) (λ held. (taken : ℕ) × (taken ≤ length bytes) × (after ≡ Some (held ++ take taken bytes)))

-- what a sink tells before a call and after it, and its counts of faults
pub record SinkOfCall : Type 0 where
  pub written_before : Option (List ℕ)
  pub written_after : Option (List ℕ)
  pub faults_before : ℕ
  pub faults_after : ℕ

-- the same, from what a call's sink tells
abbrev pub sink_of : Option (List ℕ) → Option (List ℕ) → ℕ → ℕ → SinkOfCall
sink_of written_before written_after faults_before faults_after = record {
  written_before = written_before;
  written_after = written_after;
  faults_before = faults_before;
  faults_after = faults_after;
}

-- nothing was put into it
pub record IsUntouched (sink : SinkOfCall) : Type 0 where
  pub written : sink.written_after ≡ sink.written_before
  pub faults : sink.faults_after ≡ sink.faults_before

-- its count of faults rose in the call
abbrev pub HasFault : SinkOfCall → Type 0
HasFault sink = Rose sink.faults_before sink.faults_after

-- it holds the whole text
abbrev pub HoldsWhole : List ℕ → SinkOfCall → Type 0
HoldsWhole text sink = Appended sink.written_before sink.written_after text

-- it holds a prefix of the text, and the whole where its count of faults didn't rise
pub record IsGiven (text : List ℕ) (sink : SinkOfCall) : Type 0 where
  pub part : AppendedPart sink.written_before sink.written_after text
  pub whole : ¬ (HasFault sink) → HoldsWhole text sink
