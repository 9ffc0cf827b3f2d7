use Rattle.std.proofs.Common.{subst, take_all}
use Rattle.routing_model.specs.Routes.{Routes}
use Rattle.genetic_model.proofs.RouteTotals.{all_clients}
use Rattle.route_rings.specs.Marks.{AreMarks}
use Rattle.least_insertions.proofs.VisitedClients.{marks-visited}
use Rattle.least_insertions.proofs.completing.visited_clients.Goals as goal

pub returns-clause-marks : goal.returns-clause-marks
returns-clause-marks c =
    marks-visited c.loop-visits.visited.items c.args.routes.now
    (subst (λ (routes : Routes). AreMarks c.loop-visits.visited.items (all_clients routes)) (take_all c.loop-visits.visits-index c.args.routes.now c.loop-visits-test.false)
    c.loop-visits.invariant.marks)
