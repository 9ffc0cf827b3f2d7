-- The answers to candidates, from what their changes improve.
use Rattle.std.proofs.Common.{Option}
use Rattle.search_model.specs.declared.candidate.Candidate.{Candidate}
use Rattle.gain_model.specs.Gains.{GainState}
use Rattle.move_core.specs.Searches.{SearchState}
use Rattle.new_lists.specs.Moves.{IsAnswerTo}
use Rattle.new_lists.proofs.ListAnswers.{plan-answer}
use Rattle.list_changes.specs.declared.change.Change.{Change}
use Rattle.list_changes.specs.Changes.{changed_vehicles, new_plan}
use Rattle.list_changes.specs.Improvements.{IsImprovement}
use Rattle.list_changes.specs.Moves.{IsMove}
use Rattle.list_changes.proofs.DearMoves.{made-plan}

-- what improving finds
pub improved-answer : (s : SearchState) (candidate : Candidate) (change : Change) → IsMove s candidate change → (found : Option GainState) → IsImprovement s change found → IsAnswerTo s candidate found
improved-answer s candidate change is found improves = plan-answer s candidate (new_plan s.routes change) (changed_vehicles change) (made-plan s candidate change is) is.own found improves
