-- What the plans of candidates are, and that those which cost no less are none.
use Rattle.std.proofs.Common.{◌≡◌, true, Some, None}
use Rattle.routing_model.specs.Lawful.{is_lawful}
use Rattle.search_model.specs.declared.candidate.Candidate.{Candidate}
use Rattle.search_model.specs.Moves.{moved}
use Rattle.gain_model.proofs.ProposedMoves.{dear-one, dear-two}
use Rattle.move_core.specs.Searches.{SearchState}
use Rattle.list_changes.specs.declared.change.Change.{Change}
use Rattle.list_changes.specs.declared.change.Change.TheVariants.{One, Two}
use Rattle.list_changes.specs.Changes.{CostsNoLess, new_list, new_plan}
use Rattle.list_changes.specs.Moves.{IsAnswerTo, IsMove}

-- the plan with the new lists is the candidate's, and lawful
pub made-plan : (s : SearchState) (candidate : Candidate) (change : Change) → IsMove s candidate change → moved s.problem s.weights s.routes candidate ≡ Some (new_plan s.routes change)
made-plan s candidate (One v layout) is = is.makes.makes
made-plan s candidate (Two a b one two) is = is.makes.makes

pub lawful-plan : (s : SearchState) (candidate : Candidate) (change : Change) → IsMove s candidate change → is_lawful s.problem (new_plan s.routes change) ≡ true
lawful-plan s candidate (One v layout) is = is.makes.lawful
lawful-plan s candidate (Two a b one two) is = is.makes.lawful

-- nothing, where the vehicles cost no less
pub dear-move : (s : SearchState) (candidate : Candidate) (change : Change) → IsMove s candidate change → CostsNoLess s change → IsAnswerTo s candidate None
dear-move s candidate (One v layout) is dear = dear-one s.problem s.weights s.routes candidate v (new_list s.routes v v layout) is.makes dear
dear-move s candidate (Two a b one two) is dear =
    dear-two s.problem s.weights s.routes candidate a b (new_list s.routes a b one) (new_list s.routes b a two) is.makes dear
