use Rattle.joined_views.proofs.SideReads.{every-read}
use Rattle.std.proofs.Common.{refl, arith, of_z, to_z, w64, ◌≡◌, sym}
use Rattle.std.proofs.lemmas.Int.{ints}
use Rattle.trips.proofs.RunSteps.{can-close, is-whole}
use Rattle.joined_views.specs.Views.{lent_by}
use Rattle.joined_views.proofs.joined.new_whole.Goals as goal

pub close-requires : goal.close-requires
close-requires c =
    can-close c.args.given.now c.args.vehicle_type.now (lent_by c.args.views.now) c.validity.ensures c.requires.side.allowed c.requires.side.listed c.ended-all.result c.ended-all.ensures.holds

pub returns-clause-whole : goal.returns-clause-whole
returns-clause-whole c =
    let all = c.ended-all.ensures.holds in
    let from_0 = all.sound_distance.distance.from_0 in
    let to_largest = all.sound_distance.distance.to_largest in
    let same : c.ended-all.result.distance.distance ≡ to_z w64 (of_z w64 c.ended-all.result.distance.distance) = omega (arith, ints) in
    is-whole c.args.given.now c.args.vehicle_type.now (lent_by c.args.views.now) c.validity.ensures c.requires.side.allowed c.requires.side.listed c.ended-all.result c.close.result _ all
    c.close.ensures.sound c.close.ensures.closes refl (sym same) refl

pub returns-clause-reads : goal.returns-clause-reads
returns-clause-reads c =
    let most = every-read c.args.given.now c.args.vehicle_type.now c.args.views.now c.requires.side in
    let first = c.before_end-front.ensures.reads in
    let second = c.ended-all.ensures.reads in
    record { kept = omega (arith, first.kept, second.kept); most = omega (arith, first.most, second.most) }
