use Rattle.std.proofs.Common.{subst}
use Rattle.gain_model.specs.Operators.{IsEvaluation}
use Rattle.local_search.proofs.TakenMove.{may_apply}
use Rattle.search_answers.proofs.plain_descent.takes_some.Goals as goal

pub apply-requires : goal.apply-requires
apply-requires c =
    let s = c.loop-candidate.search in
    may_apply s.problem s.weights s.routes _ c.in-Some.gain (subst (IsEvaluation s.problem s.weights s.routes _) c.in-Some.is c.in_ok-gain.ensures)
