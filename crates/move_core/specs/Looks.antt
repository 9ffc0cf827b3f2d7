-- What a look at a client and a neighbour finds: which exchanges of the client behind the neighbour give nothing.
use Rattle.std.specs.Prelude.{◌≡◌, ℕ, ◌<◌, Bool, false, IsTrue, List, None, slice_index_or}
use Rattle.search_model.specs.declared.candidate.Candidate.TheVariants.{Node}
use Rattle.search_model.specs.declared.candidate.Target.TheVariants.{After}
use Rattle.search_model.specs.declared.kind.Kind.{Kind}
use Rattle.search_model.specs.declared.kind.Kind.TheVariants.{Exchange10}
use Rattle.search_model.specs.Kinds.{exchange_kinds}
use Rattle.gain_model.specs.Operators.{bettered}
use Rattle.move_core.specs.Searches.{SearchState}

-- the move of a client behind a neighbour doesn't apply, or costs no less
abbrev pub GivesNothing : SearchState → Kind → ℕ → ℕ → Type 0
GivesNothing s kind client neighbour = bettered s.problem s.weights s.routes (Node kind client (After neighbour)) ≡ None

-- marks of the nine exchanges, in their order: each one that is marked gives nothing
abbrev pub AreHopeless : SearchState → ℕ → ℕ → List Bool → Type 0
AreHopeless s client neighbour marks =
    (at : ℕ) → at < 9 → IsTrue (slice_index_or marks at false) → GivesNothing s (slice_index_or exchange_kinds at Exchange10) client neighbour
