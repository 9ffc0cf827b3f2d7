use Rattle.std.proofs.Common.{◌≤◌, arith, sym}
use Rattle.problem_data.specs.Places.{place_count}
use Rattle.plan_tables.specs.Routes.{lists_of}
use Rattle.plan_tables.proofs.Positions.{position-none, spot-within}
use Rattle.move_core.proofs.search.Search.position.Goals as goal

pub returns-then-client-spots-clause-position : goal.returns-then-client-spots-clause-position
returns-then-client-spots-clause-position c =
    rw (← c.self.view_is)
    (let far : place_count c.self.inside.given.now ≤ c.args.client = omega (arith, c.self.invariant.plan.has_tables.has_spots.count, c.as_slice-spots.ensures.len) in
    sym (position-none c.self.inside.given.now (lists_of c.self.inside.routes.items) c.args.client c.self.invariant.plan.sound.lawful far))

pub returns-else-spot-eq0-clause-in_range : goal.returns-else-spot-eq0-clause-in_range
returns-else-spot-eq0-clause-in_range c =
    rw (← c.self.view_is)
    (omega (arith, c.self.invariant.plan.sound.one_list_each, (spot-within (place_count c.self.inside.given.now) (lists_of c.self.inside.routes.items) c.as_slice-spots.result.now c.args.client (record { vehicle = 0; place = 0 }) (rw c.as_slice-spots.ensures.value c.self.invariant.plan.has_tables.has_spots) c.if-client-spots.false c.if-spot-eq0.false).vehicle_there))

pub returns-else-spot-eq0-clause-within : goal.returns-else-spot-eq0-clause-within
returns-else-spot-eq0-clause-within c =
    rw (← c.self.view_is)
    (spot-within (place_count c.self.inside.given.now) (lists_of c.self.inside.routes.items) c.as_slice-spots.result.now c.args.client (record { vehicle = 0; place = 0 }) (rw c.as_slice-spots.ensures.value c.self.invariant.plan.has_tables.has_spots) c.if-client-spots.false c.if-spot-eq0.false).in_list
