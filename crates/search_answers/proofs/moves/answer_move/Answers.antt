use Rattle.std.proofs.Common.{subst}
use Rattle.gain_model.specs.Operators.{IsEvaluation}
use Rattle.local_search.proofs.TakenMove.{may_apply}
use Rattle.search_answers.proofs.moves.answer_move.Goals as goal

pub apply-requires : goal.apply-requires
apply-requires c =
    let s = c.in_ok-search.search in
    may_apply s.problem s.weights s.routes _ c.in-Some.gain (subst (IsEvaluation s.problem s.weights s.routes _) c.in-Some.is c.in_ok-gain.ensures)
