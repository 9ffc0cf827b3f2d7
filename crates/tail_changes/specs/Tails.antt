-- What exchanges of tails change.
use Rattle.std.specs.Prelude.{ℕ, ◌+◌, ◌≤◌}
use Rattle.search_model.specs.declared.candidate.Candidate.{Candidate}
use Rattle.search_model.specs.declared.candidate.Candidate.TheVariants.{Node}
use Rattle.search_model.specs.declared.candidate.Target.{Target}
use Rattle.search_model.specs.declared.kind.Kind.TheVariants.{SwapTails}
use Rattle.move_core.specs.Operators.{operator_reads}
use Rattle.move_core.specs.Searches.{SearchState}
use Rattle.list_changes.specs.declared.change.Change.{Change}
use Rattle.list_changes.specs.Moves.{IsMove}
use Rattle.list_changes.specs.Reads.{improve_reads}

-- the candidate
abbrev pub tail_candidate : ℕ → Target → Candidate
tail_candidate client target = Node SwapTails client target

-- the change of an exchange of tails: its candidate makes it, and an operator may read the legs that it takes to see what it improves,
-- and the eight that tell whether it surely doesn't
pub record IsTailChange (s : SearchState) (client : ℕ) (target : Target) (change : Change) : Type 0 where
  pub move : IsMove s (tail_candidate client target) change
  pub few : improve_reads s change + 8 ≤ operator_reads s.problem s.routes (tail_candidate client target)
