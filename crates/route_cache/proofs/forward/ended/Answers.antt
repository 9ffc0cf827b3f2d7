use Rattle.std.proofs.Common.{◌≡◌, arith, w64, to_z, of_z, refl, sym}
use Rattle.std.proofs.lemmas.Int.{ints}
use Rattle.trips.proofs.RunSteps.{can-close, is-whole}
use Rattle.route_cache.proofs.Alongs.{can-end, holds-end}
use Rattle.route_cache.proofs.forward.ended.Goals as goal

pub merge-all-requires : goal.merge-all-requires
merge-all-requires c =
    can-end c.args.given.now c.args.vehicle_type.now c.args.visits.now c.requires.valid c.requires.vehicle_type c.requires.listed c.args.before c.end-end.result
    c.args.leg.distance c.args.leg.duration c.requires.before c.end-end.ensures c.requires.distance c.requires.duration

pub close-requires : goal.close-requires
close-requires c =
    can-close c.args.given.now c.args.vehicle_type.now c.args.visits.now c.requires.valid c.requires.vehicle_type c.requires.listed c.merge-all.result
    (holds-end c.args.given.now c.args.vehicle_type.now c.args.visits.now c.requires.valid c.requires.vehicle_type c.requires.listed c.args.before c.end-end.result
    c.args.leg.distance c.args.leg.duration c.requires.before c.end-end.ensures c.requires.distance c.requires.duration c.merge-all.result c.merge-all.ensures.joins)

pub returns : goal.returns
returns c =
    let all = holds-end c.args.given.now c.args.vehicle_type.now c.args.visits.now c.requires.valid c.requires.vehicle_type c.requires.listed c.args.before c.end-end.result
    c.args.leg.distance c.args.leg.duration c.requires.before c.end-end.ensures c.requires.distance c.requires.duration c.merge-all.result c.merge-all.ensures.joins in
    let sound = all.sound_distance.distance in
    let from_0 = sound.from_0 in
    let to_largest = sound.to_largest in
    let same : c.merge-all.result.distance.distance ≡ to_z w64 (of_z w64 c.merge-all.result.distance.distance) = omega (arith, ints) in
    is-whole c.args.given.now c.args.vehicle_type.now c.args.visits.now c.requires.valid c.requires.vehicle_type c.requires.listed c.merge-all.result c.close.result _ all c.close.ensures.sound c.close.ensures.closes
    refl (sym same) refl
