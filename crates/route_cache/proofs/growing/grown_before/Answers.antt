use Rattle.std.proofs.Common.{get_or, pos, subst}
use Rattle.problem_data.specs.declared.visit.Visit.{Visit}
use Rattle.problem_data.specs.declared.visit.Visit.TheVariants.{Client}
use Rattle.trips.specs.RunSegments.{HoldsVisit}
use Rattle.trips.proofs.RunSteps.{named-at}
use Rattle.route_cache.proofs.Alongs.{can-before, holds-before}
use Rattle.route_cache.proofs.Shapes.{grows-before}
use Rattle.route_cache.proofs.growing.grown_before.Goals as goal

pub visit-front-requires : goal.visit-front-requires
visit-front-requires c = rw c.requires.visit (named-at c.args.given.now c.args.visits.now c.args.at (Client 0) c.requires.listed c.requires.in_list)

pub merge-requires : goal.merge-requires
merge-requires c =
    can-before c.args.given.now c.args.vehicle_type.now c.args.visits.now c.requires.valid c.requires.vehicle_type c.requires.listed c.args.at
    c.args.so_far c.visit-front.result c.args.leg.distance c.args.leg.duration c.requires.in_list c.requires.holds
    (subst (λ (v : Visit). HoldsVisit c.args.given.now v c.visit-front.result) c.requires.visit c.visit-front.ensures) c.requires.distance c.requires.duration

pub returns-clause-holds : goal.returns-clause-holds
returns-clause-holds c =
    holds-before c.args.given.now c.args.vehicle_type.now c.args.visits.now c.requires.valid c.requires.vehicle_type c.requires.listed c.args.at
    c.args.so_far c.visit-front.result c.args.leg.distance c.args.leg.duration c.requires.in_list c.requires.holds
    (subst (λ (v : Visit). HoldsVisit c.args.given.now v c.visit-front.result) c.requires.visit c.visit-front.ensures) c.requires.distance c.requires.duration c.merge.result c.merge.ensures.joins

pub returns-clause-grows : goal.returns-clause-grows
returns-clause-grows c =
    grows-before c.args.given.now c.args.vehicle_type.now (get_or c.args.visits.now c.args.at (Client 0)) c.args.so_far.trips c.visit-front.result.trips c.merge.result.trips (pos c.args.leg.duration) c.args.vehicle_type.now.capacity
    (subst (λ (v : Visit). HoldsVisit c.args.given.now v c.visit-front.result) c.requires.visit c.visit-front.ensures c.args.vehicle_type.now c.requires.vehicle_type).stands c.merge.ensures.trips
