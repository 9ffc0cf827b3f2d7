-- What candidates change, and the answers to them.
use Rattle.std.specs.Prelude.{All}
use Rattle.search_model.specs.declared.candidate.Candidate.{Candidate}
use Rattle.search_model.proofs.ExchangeMoves.{MovesOne, MovesTwo}
use Rattle.move_core.specs.Searches.{SearchState}
pub use Rattle.new_lists.specs.Moves.{IsAnswerTo, IsVehicleOf}
use Rattle.list_changes.specs.declared.change.Change.{Change}
use Rattle.list_changes.specs.declared.change.Change.TheVariants.{One, Two}
use Rattle.list_changes.specs.Changes.{IsLaid, changed_vehicles, new_list}

-- a candidate makes the change
abbrev pub Makes : SearchState → Candidate → Change → Type 0
Makes s candidate (One vehicle layout) = MovesOne s.problem s.weights s.routes candidate vehicle (new_list s.routes vehicle vehicle layout)
Makes s candidate (Two first second one two) =
    MovesTwo s.problem s.weights s.routes candidate first second (new_list s.routes first second one) (new_list s.routes second first two)

-- the change of a candidate: it is of vehicles of the candidate, which makes it
pub record IsMove (s : SearchState) (candidate : Candidate) (change : Change) : Type 0 where
  pub laid : IsLaid s change
  pub makes : Makes s candidate change
  pub own : All (IsVehicleOf s candidate) (changed_vehicles change)
