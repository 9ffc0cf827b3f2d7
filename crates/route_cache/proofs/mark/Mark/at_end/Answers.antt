use Rattle.std.proofs.Common.{◌≡◌, arith, refl, w64, to_z, of_z}
use Rattle.std.proofs.lemmas.Int.{ints}
use Rattle.route_cache.proofs.MarkFacts.{deliveries-few, distance-few, mark-end, pickups-few, prizes-few}
use Rattle.std.proofs.Common.{length}
use Rattle.route_cache.proofs.mark.Mark.at_end.Goals as goal

pub returns : goal.returns
returns c =
    let p = c.args.given.now in
    let visits = c.args.visits.now in
    let is = c.requires.mark in
    let driven_few = distance-few p c.args.vehicle_type.now visits c.requires.valid c.requires.vehicle_type c.requires.listed in
    let delivery_few = deliveries-few p visits (length visits) c.requires.valid c.requires.listed in
    let pickup_few = pickups-few p visits (length visits) c.requires.valid c.requires.listed in
    let prize_few = prizes-few p visits (length visits) c.requires.valid c.requires.listed in
    let is_driven = c.requires.driven in
    let is_delivery = is.delivery in
    let is_pickup = is.pickup in
    let is_prize = is.prize in
    let driven : to_z w64 (of_z w64 c.args.driven) ≡ c.args.driven = omega (arith, ints) in
    let delivery : to_z w64 (of_z w64 c.args.self.delivery) ≡ c.args.self.delivery = omega (arith, ints) in
    let pickup : to_z w64 (of_z w64 c.args.self.pickup) ≡ c.args.self.pickup = omega (arith, ints) in
    let prize : to_z w64 (of_z w64 c.args.self.prize) ≡ c.args.self.prize = omega (arith, ints) in
    mark-end p c.args.vehicle_type.now visits c.args.self _ is (rw driven c.requires.driven) delivery pickup prize refl refl c.requires.leg refl
