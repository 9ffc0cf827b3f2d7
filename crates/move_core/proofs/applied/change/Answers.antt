use Rattle.std.proofs.Common.{◌∙◌, ap}
use Rattle.move_core.specs.inside.Applying.{AreMadeRoutes}
use Rattle.plan_tables.specs.Routes.{lists_of}
use Rattle.move_core.proofs.PlacedRoutes.{other-inside, placed-lists}
use Rattle.move_core.proofs.SoundSearches.{gain-listed, kept-after, once-after, once-before}
use Rattle.move_core.proofs.applied.change.Goals as goal

pub made_routes-requires-clause-listed : goal.made_routes-requires-clause-listed
made_routes-requires-clause-listed c =
    rw c.as_slice.ensures.value (gain-listed c.args.given.now c.args.weights c.args.routes.now.items c.args.kept.now c.requires.plan c.args.gain.now c.requires.gain)

pub install-requires-clause-other_inside : goal.install-requires-clause-other_inside
install-requires-clause-other_inside c =
    let are : AreMadeRoutes c.args.given.now (lists_of c.args.routes.now.items) c.args.gain.now c.in_ok-route.route c.in_ok-route.other = rw (← c.as_slice.ensures.value) c.in_ok-route.ensures.routes in
    other-inside c.args.given.now c.args.routes.now.items c.args.gain.now c.in_ok-route.route c.in_ok-route.other are c.requires.gain.within

pub install-requires-clause-apart : goal.install-requires-clause-apart
install-requires-clause-apart c =
    let are : AreMadeRoutes c.args.given.now (lists_of c.args.routes.now.items) c.args.gain.now c.in_ok-route.route c.in_ok-route.other = rw (← c.as_slice.ensures.value) c.in_ok-route.ensures.routes in
    are.are_apart

pub install-requires-clause-once : goal.install-requires-clause-once
install-requires-clause-once c = once-before c.args.given.now c.args.weights c.args.routes.now.items c.args.kept.now c.requires.plan

pub install-requires-clause-once_after : goal.install-requires-clause-once_after
install-requires-clause-once_after c =
    let are : AreMadeRoutes c.args.given.now (lists_of c.args.routes.now.items) c.args.gain.now c.in_ok-route.route c.in_ok-route.other = rw (← c.as_slice.ensures.value) c.in_ok-route.ensures.routes in
    once-after c.args.given.now c.args.weights c.args.routes.now.items c.args.kept.now c.requires.plan c.args.gain.now c.requires.gain c.in_ok-route.route c.in_ok-route.other are

pub returns-clause-lists : goal.returns-clause-lists
returns-clause-lists c =
    let are : AreMadeRoutes c.args.given.now (lists_of c.args.routes.now.items) c.args.gain.now c.in_ok-route.route c.in_ok-route.other = rw (← c.as_slice.ensures.value) c.in_ok-route.ensures.routes in
    ap lists_of c.install.ensures.routes ∙ placed-lists c.args.given.now c.args.routes.now.items c.args.gain.now c.in_ok-route.route c.in_ok-route.other are

pub returns-clause-plan : goal.returns-clause-plan
returns-clause-plan c =
    let are : AreMadeRoutes c.args.given.now (lists_of c.args.routes.now.items) c.args.gain.now c.in_ok-route.route c.in_ok-route.other = rw (← c.as_slice.ensures.value) c.in_ok-route.ensures.routes in
    kept-after c.args.given.now c.args.weights c.args.routes.now.items c.args.kept.now c.requires.plan c.args.gain.now c.requires.gain c.install.new.routes.items c.install.new.kept c.in_ok-route.route c.in_ok-route.other are
    c.install.ensures.routes c.install.ensures.tables
