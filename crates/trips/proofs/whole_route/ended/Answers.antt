use Rattle.std.proofs.Common.{◌≡◌, arith, w64, to_z, of_z, refl, sym}
use Rattle.std.proofs.lemmas.Int.{ints}
use Rattle.trips.proofs.RunSteps.{can-close, fit-whole, holds-whole, is-whole, last-there}
use Rattle.trips.proofs.whole_route.ended.Goals as goal

pub join-all-requires-clause-last : goal.join-all-requires-clause-last
join-all-requires-clause-last c =
    rw c.last_place-last.ensures (last-there c.args.given.now c.args.vehicle_type.now.start c.args.visits.now c.requires.listed (omega (arith, c.requires.vehicle_type.start)))

pub join-all-requires-clause-fit : goal.join-all-requires-clause-fit
join-all-requires-clause-fit c =
    rw c.last_place-last.ensures
    (fit-whole c.args.given.now c.args.vehicle_type.now c.args.visits.now c.requires.valid c.requires.vehicle_type c.requires.listed c.args.before c.end-end.result c.requires.before c.end-end.ensures)

pub close-requires : goal.close-requires
close-requires c =
    can-close c.args.given.now c.args.vehicle_type.now c.args.visits.now c.requires.valid c.requires.vehicle_type c.requires.listed c.join-all.result
    (holds-whole c.args.given.now c.args.vehicle_type.now c.args.visits.now c.requires.valid c.requires.vehicle_type c.requires.listed c.args.before c.end-end.result c.join-all.result
    c.requires.before c.end-end.ensures (rw c.last_place-last.ensures at c.join-all.ensures.joins))

pub returns-clause-whole : goal.returns-clause-whole
returns-clause-whole c =
    let all = holds-whole c.args.given.now c.args.vehicle_type.now c.args.visits.now c.requires.valid c.requires.vehicle_type c.requires.listed c.args.before c.end-end.result c.join-all.result
    c.requires.before c.end-end.ensures (rw c.last_place-last.ensures at c.join-all.ensures.joins) in
    let sound = all.sound_distance.distance in
    let from_0 = sound.from_0 in
    let to_largest = sound.to_largest in
    let same : c.join-all.result.distance.distance ≡ to_z w64 (of_z w64 c.join-all.result.distance.distance) = omega (arith, ints) in
    is-whole c.args.given.now c.args.vehicle_type.now c.args.visits.now c.requires.valid c.requires.vehicle_type c.requires.listed c.join-all.result c.close.result _ all c.close.ensures.sound c.close.ensures.closes
    refl (sym same) refl
