use Rattle.std.proofs.Common.{get_or, pos, subst}
use Rattle.problem_data.specs.declared.visit.Visit.{Visit}
use Rattle.problem_data.specs.declared.visit.Visit.TheVariants.{Client}
use Rattle.trips.specs.RunSegments.{HoldsVisit}
use Rattle.trips.proofs.RunSteps.{named-at}
use Rattle.route_cache.proofs.Alongs.{can-behind, holds-behind}
use Rattle.route_cache.proofs.Shapes.{grows-behind}
use Rattle.route_cache.proofs.growing.grown_behind.Goals as goal

pub visit-next-requires : goal.visit-next-requires
visit-next-requires c = rw c.requires.visit (named-at c.args.given.now c.args.visits.now c.args.k (Client 0) c.requires.listed c.requires.in_list)

pub merge-requires : goal.merge-requires
merge-requires c =
    can-behind c.args.given.now c.args.vehicle_type.now c.args.visits.now c.requires.valid c.requires.vehicle_type c.requires.listed c.requires.goes_on.starts c.requires.goes_on.first c.args.k
    c.args.so_far c.visit-next.result c.args.leg.distance c.args.leg.duration c.requires.goes_on.begun c.requires.in_list c.requires.goes_on.holds
    (subst (λ (v : Visit). HoldsVisit c.args.given.now v c.visit-next.result) c.requires.visit c.visit-next.ensures) c.requires.distance c.requires.duration

pub returns-clause-holds : goal.returns-clause-holds
returns-clause-holds c = λ starts first begun holds.
    holds-behind c.args.given.now c.args.vehicle_type.now c.args.visits.now c.requires.valid c.requires.vehicle_type c.requires.listed starts first c.args.k
    c.args.so_far c.visit-next.result c.args.leg.distance c.args.leg.duration begun c.requires.in_list holds
    (subst (λ (v : Visit). HoldsVisit c.args.given.now v c.visit-next.result) c.requires.visit c.visit-next.ensures) c.requires.distance c.requires.duration c.merge.result c.merge.ensures.joins

pub returns-clause-grows : goal.returns-clause-grows
returns-clause-grows c =
    grows-behind c.args.given.now c.args.vehicle_type.now (get_or c.args.visits.now c.args.k (Client 0)) c.args.so_far.trips c.visit-next.result.trips c.merge.result.trips (pos c.args.leg.duration) c.args.vehicle_type.now.capacity
    (subst (λ (v : Visit). HoldsVisit c.args.given.now v c.visit-next.result) c.requires.visit c.visit-next.ensures c.args.vehicle_type.now c.requires.vehicle_type).stands c.merge.ensures.trips
