use Rattle.std.proofs.Common.{◌≡◌, arith}
use Rattle.std.specs.Int.{int_max}
use Rattle.std.specs.Prelude.{pos, ◌-ℤ◌}
use Rattle.std.proofs.lemmas.Int.{clamps, ints}
use Rattle.joined_views.proofs.LaterLoads.{client-before, reload-before, same-excess}
use Rattle.joined_views.proofs.later_trips.LaterTrips.before.Goals as goal

pub returns-in-Client : goal.returns-in-Client
returns-in-Client c = λ count visits h.
    let now = c.requires.later.3 in
    rw c.in-Client.is
    (client-before c.args.given.now c.args.capacity count visits c.in-Client.place c.client-client.result.now c.args.self c.client-load.result c.merge.result _
    c.client-client.ensures.client c.client-client.ensures.valid c.client-load.ensures.value c.client-load.ensures.stands c.merge.ensures.value c.merge.ensures.sound c.merge.ensures.joins
    (same-excess c.args.self.excess c.args.self.trip.load _ c.requires.later.0 now.excess now.sound.load.from_0 now.short c.requires.later.1) h)

pub returns-in-Reload : goal.returns-in-Reload
returns-in-Reload c = λ count visits h.
    let now = c.requires.later.3 in
    let few = c.requires.later.1 in
    let small = c.requires.capacity in
    let from_0 = now.sound.load.from_0 in
    let to_largest = now.sound.load.to_largest in
    let value = c.max.ensures.value in
    let over : c.max.result ≡ int_max (c.args.self.trip.load -ℤ pos c.args.capacity) (pos 0) = omega (arith, ints, clamps) in
    rw c.in-Reload.is
    (reload-before c.args.given.now c.args.capacity count c.in-Reload.field-0 visits c.args.self c.empty.result c.max.result _
    c.empty.ensures.value c.empty.ensures.sound c.empty.ensures.stands over (omega (arith, ints, clamps, now.excess, now.short)) h)
