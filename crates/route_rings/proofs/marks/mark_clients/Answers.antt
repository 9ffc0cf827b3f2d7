use Rattle.std.proofs.Common.{◌++◌, List, subst, rules, take_all}
use Rattle.problem_data.specs.declared.visit.Visit.{Visit}
use Rattle.routing_model.specs.Routes.{clients_of}
use Rattle.route_rings.specs.Marks.{AreMarks}
use Rattle.route_rings.proofs.MarkedClients.{mark-more}
use Rattle.route_rings.proofs.marks.mark_clients.Goals as goal

pub loop-visit-preserved : goal.loop-visit-preserved
loop-visit-preserved c = (
  search rules,
  λ clients are. rw c.mark_visit.ensures (mark-more c.loop-visit.marks clients c.args.visits.now c.loop-visit.visit-index c.loop-visit-test.true (c.loop-visit.invariant.1 clients are)),
)

pub returns-clause-marks : goal.returns-clause-marks
returns-clause-marks c = λ clients are.
    subst (λ (visits : List Visit). AreMarks c.loop-visit.marks (clients ++ clients_of visits)) (take_all c.loop-visit.visit-index c.args.visits.now c.loop-visit-test.false) (c.loop-visit.invariant.1 clients are)
