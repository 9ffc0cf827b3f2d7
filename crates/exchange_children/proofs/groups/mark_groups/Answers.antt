use Rattle.std.proofs.Common.{◌++◌, ◌∙◌, List, ap, subst, length, take_all}
use Rattle.problem_data.specs.declared.visit.Visit.{Visit}
use Rattle.routing_model.specs.Routes.{clients_of}
use Rattle.exchange_children.specs.inside.Clashing.{AreGroupMarks}
use Rattle.exchange_children.proofs.GroupMarks.{length-group_marked, mark-more}
use Rattle.exchange_children.proofs.groups.mark_groups.Goals as goal

pub loop-visit-preserved : goal.loop-visit-preserved
loop-visit-preserved c = (
  ap length c.mark_group.ensures ∙ (length-group_marked c.args.given.now c.loop-visit.marks _ ∙ c.loop-visit.invariant.0),
  λ clients are.
      rw c.mark_group.ensures
      (mark-more c.args.given.now c.loop-visit.marks clients c.args.visits.now c.loop-visit.visit-index c.loop-visit-test.true (c.loop-visit.invariant.1 clients are)),
)

pub returns-clause-marks : goal.returns-clause-marks
returns-clause-marks c = λ clients are.
    subst (λ (visits : List Visit). AreGroupMarks c.args.given.now c.loop-visit.marks (clients ++ clients_of visits)) (take_all c.loop-visit.visit-index c.args.visits.now c.loop-visit-test.false)
    (c.loop-visit.invariant.1 clients are)
