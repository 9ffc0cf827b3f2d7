use Rattle.std.proofs.Common.{ap, subst, sym}
use Rattle.std.specs.Prelude.{IsTrue}
use Rattle.problem_data.specs.declared.problem.Problem.{Problem}
use Rattle.routing_model.specs.Lawful.{is_lawful}
use Rattle.move_core.proofs.SoundSearches.{drivable-of}
use Rattle.recording_operators.specs.declared.own_run.OwnRun.{OwnRun}
use Rattle.recording_operators.proofs.own_run.OwnRun.take.Goals as goal

pub assess-excess-requires : goal.assess-excess-requires
assess-excess-requires g c = drivable-of c.args.self.now.given.now c.args.child.now.routes c.validity.ensures c.requires.lawful

pub repair-requires-clause-lawful : goal.repair-requires-clause-lawful
repair-requires-clause-lawful g c = subst (λ (q : Problem). IsTrue (is_lawful q c.args.child.now.routes)) (sym (ap (λ (x : OwnRun). x.given.now) c.in_ok-add.ensures.others)) c.requires.lawful
