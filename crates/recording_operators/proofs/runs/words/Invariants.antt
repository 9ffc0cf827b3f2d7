use Rattle.std.specs.Prelude.{◌≡◌, length}
use Rattle.recording_operators.proofs.runs.words.Given as goal

abbrev pub invariant-loop-word : goal.invariant-loop-word
invariant-loop-word l = length l.words.items ≡ l.word-index
