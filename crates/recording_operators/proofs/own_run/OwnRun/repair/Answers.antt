use Rattle.std.proofs.Common.{ap, subst, sym}
use Rattle.std.specs.Prelude.{IsTrue}
use Rattle.problem_data.specs.declared.problem.Problem.{Problem}
use Rattle.routing_model.specs.Lawful.{is_lawful}
use Rattle.move_core.proofs.SoundSearches.{drivable-of}
use Rattle.recording_operators.specs.declared.own_run.OwnRun.{OwnRun}
use Rattle.recording_operators.proofs.own_run.OwnRun.repair.Goals as goal

pub assess-excess-requires : goal.assess-excess-requires
assess-excess-requires g c =
    drivable-of c.descended.new.self.given.now c.in_ok-repaired.repaired.routes c.validity.ensures
    (subst (λ (q : Problem). IsTrue (is_lawful q c.in_ok-repaired.repaired.routes)) (sym (ap (λ (x : OwnRun). x.given.now) c.in_ok-repaired.ensures.others)) c.in_ok-repaired.ensures.lawful)

pub add-requires-clause-lawful : goal.add-requires-clause-lawful
add-requires-clause-lawful g c =
    subst (λ (q : Problem). IsTrue (is_lawful q c.in_ok-repaired.repaired.routes)) (sym (ap (λ (x : OwnRun). x.given.now) c.in_ok-repaired.ensures.others)) c.in_ok-repaired.ensures.lawful
