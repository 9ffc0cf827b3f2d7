-- The candidates that take reloads out, and what they change.
use Rattle.std.specs.Prelude.{◌≡◌, ℕ}
use Rattle.search_model.specs.declared.candidate.Candidate.{Candidate}
use Rattle.search_model.specs.declared.candidate.Candidate.TheVariants.{Solo}
use Rattle.search_model.specs.declared.kind.Kind.TheVariants.{RemoveDepot}
use Rattle.move_core.specs.Searches.{SearchState}
use Rattle.list_changes.specs.declared.change.Change.{Change}
use Rattle.list_changes.specs.Moves.{IsMove}
use Rattle.list_changes.specs.Reads.{improve_reads}

-- the reload directly behind a client is taken out
abbrev pub out_candidate : ℕ → Candidate
out_candidate client = Solo RemoveDepot client

-- the change of such a candidate: the candidate makes it, and it takes six legs to see what it improves
pub record IsRemoval (s : SearchState) (client : ℕ) (change : Change) : Type 0 where
  pub move : IsMove s (out_candidate client) change
  pub few : improve_reads s change ≡ 6
