use Rattle.std.proofs.Common.{ap, subst, sym}
use Rattle.std.specs.Prelude.{IsTrue}
use Rattle.problem_data.specs.declared.problem.Problem.{Problem}
use Rattle.routing_model.specs.Lawful.{is_lawful}
use Rattle.recording_operators.specs.declared.own_run.OwnRun.{OwnRun}
use Rattle.recording_operators.proofs.own_run.OwnRun.iterate.Goals as goal

pub descended-requires-clause-lawful : goal.descended-requires-clause-lawful
descended-requires-clause-lawful g c =
    subst (λ (q : Problem). IsTrue (is_lawful q c.in_ok-child.child.routes)) (sym (ap (λ (x : OwnRun). x.given.now) c.in_ok-child.ensures.others)) c.in_ok-child.ensures.lawful

pub take-requires-clause-lawful : goal.take-requires-clause-lawful
take-requires-clause-lawful g c =
    subst (λ (q : Problem). IsTrue (is_lawful q c.in_ok-child-2.child.routes)) (sym (ap (λ (x : OwnRun). x.given.now) c.in_ok-child-2.ensures.others)) c.in_ok-child-2.ensures.lawful
