use Rattle.std.proofs.Common.{◌∙◌}
use Rattle.problem_data.specs.Places.{vehicle_count}
use Rattle.plan_tables.specs.Routes.{lists_of}
use Rattle.move_core.proofs.MadeRoutes.{are-made, first-listed, reads-made, second-inside, second-listed, second-parts-within}
use Rattle.plan_tables.proofs.SpotMarks.{lists-count}
use Rattle.move_core.proofs.new_routes.made_routes.Goals as goal

pub made_route-requires-clause-listed : goal.made_route-requires-clause-listed
made_route-requires-clause-listed c =
    rw c.parts.ensures (first-listed c.args.given.now (lists_of c.args.routes.now) c.args.gain.now c.requires.within c.vehicles-first.ensures.apart c.requires.listed)

pub second_route-requires-clause-vehicle : goal.second_route-requires-clause-vehicle
second_route-requires-clause-vehicle c =
    rw c.vehicles-first.ensures.second
    (second-inside (lists_of c.args.routes.now) c.args.gain.now (vehicle_count c.args.given.now) (lists-count c.args.routes.now ∙ c.requires.count) c.requires.within)

pub second_route-requires-clause-within : goal.second_route-requires-clause-within
second_route-requires-clause-within c = rw c.parts-2.ensures (second-parts-within (lists_of c.args.routes.now) c.args.gain.now c.requires.within)

pub second_route-requires-clause-listed : goal.second_route-requires-clause-listed
second_route-requires-clause-listed c =
    rw (c.vehicles-first.ensures.second, c.parts-2.ensures) (second-listed c.args.given.now (lists_of c.args.routes.now) c.args.gain.now c.requires.within c.requires.listed)

pub returns-in_err-other-clause-reads : goal.returns-in_err-other-clause-reads
returns-in_err-other-clause-reads c =
    reads-made (lists_of c.args.routes.now) c.args.gain.now c.args.reads.now c.made_route.new.reads c.second_route.new.reads (rw (← c.parts.ensures) c.made_route.ensures.reads)
    (rw (← c.vehicles-first.ensures.second, ← c.parts-2.ensures) c.second_route.ensures.reads)

pub returns-clause-routes : goal.returns-clause-routes
returns-clause-routes c =
    are-made c.args.given.now (lists_of c.args.routes.now) c.args.gain.now c.in_ok-route.route c.in_ok-other.other c.vehicles-first.ensures.apart
    (rw (← c.vehicles-first.ensures.first, ← c.parts.ensures) c.in_ok-route.ensures.route)
    (rw (← c.vehicles-first.ensures.second, ← c.parts-2.ensures) c.in_ok-other.ensures.route)

pub returns-clause-reads : goal.returns-clause-reads
returns-clause-reads c =
    reads-made (lists_of c.args.routes.now) c.args.gain.now c.args.reads.now c.made_route.new.reads c.second_route.new.reads (rw (← c.parts.ensures) c.made_route.ensures.reads)
    (rw (← c.vehicles-first.ensures.second, ← c.parts-2.ensures) c.second_route.ensures.reads)
