use Rattle.std.proofs.Common.{◌≡◌, ℕ, ◌+◌, ap, arith, w64, to_z, of_z}
use Rattle.std.specs.Prelude.{pos, ◌+ℤ◌}
use Rattle.problem_data.specs.Places.{client_at}
use Rattle.std.proofs.lemmas.Int.{ints}
use Rattle.problem_data.specs.declared.visit.Visit.TheVariants.{Client}
use Rattle.trips.proofs.RunSteps.{named-at}
use Rattle.route_cache.proofs.MarkFacts.{deliveries-few, mark-visit, pickups-few, prizes-few, sum-next}
use Rattle.route_cache.proofs.mark.Mark.at_visit.Goals as goal

pub amounts_of-amounts-requires : goal.amounts_of-amounts-requires
amounts_of-amounts-requires c = named-at c.args.given.now c.args.visits.now c.args.k (Client 0) c.requires.listed c.requires.in_list

pub overflow_add-result : goal.overflow_add-result
overflow_add-result c =
    let few = deliveries-few c.args.given.now c.args.visits.now c.args.k c.requires.valid c.requires.listed in
    let is = c.requires.mark.delivery in
    let small = c.amounts_of-amounts.ensures.small_delivery in
    omega (arith, ints)

pub overflow_add-result-2 : goal.overflow_add-result-2
overflow_add-result-2 c =
    let few = pickups-few c.args.given.now c.args.visits.now c.args.k c.requires.valid c.requires.listed in
    let is = c.requires.mark.pickup in
    let small = c.amounts_of-amounts.ensures.small_pickup in
    omega (arith, ints)

pub overflow_cast-result-3 : goal.overflow_cast-result-3
overflow_cast-result-3 c =
    let few = prizes-few c.args.given.now c.args.visits.now (c.args.k + 1) c.requires.valid c.requires.listed in
    let is = c.requires.holds.prizes in
    omega (arith, ints)

pub returns : goal.returns
returns c =
    let p = c.args.given.now in
    let visits = c.args.visits.now in
    let k = c.args.k in
    let was_delivery = deliveries-few p visits k c.requires.valid c.requires.listed in
    let was_pickup = pickups-few p visits k c.requires.valid c.requires.listed in
    let prize_few = prizes-few p visits (k + 1) c.requires.valid c.requires.listed in
    let is_delivery = c.requires.mark.delivery in
    let is_pickup = c.requires.mark.pickup in
    let is_prize = c.requires.holds.prizes in
    let from_0 = c.requires.holds.sound_distance.distance.from_0 in
    let to_largest = c.requires.holds.sound_distance.distance.to_largest in
    let small_delivery = c.amounts_of-amounts.ensures.small_delivery in
    let small_pickup = c.amounts_of-amounts.ensures.small_pickup in
    let distance : to_z w64 (of_z w64 c.args.so_far.distance.distance) ≡ c.args.so_far.distance.distance = omega (arith, ints) in
    let delivery : to_z w64 (of_z w64 (to_z w64 (of_z w64 c.args.self.delivery) +ℤ to_z w64 c.amounts_of-amounts.result.delivery)) ≡ c.args.self.delivery +ℤ pos c.amounts_of-amounts.result.delivery = omega (arith, ints) in
    let pickup : to_z w64 (of_z w64 (to_z w64 (of_z w64 c.args.self.pickup) +ℤ to_z w64 c.amounts_of-amounts.result.pickup)) ≡ c.args.self.pickup +ℤ pos c.amounts_of-amounts.result.pickup = omega (arith, ints) in
    let prize : to_z w64 c.args.so_far.prizes ≡ pos c.args.so_far.prizes = omega (arith, ints) in
    mark-visit p c.args.vehicle_type.now visits k c.args.self _ c.args.so_far c.requires.in_list c.requires.mark c.requires.holds distance
    (sum-next (λ place. (client_at p place).delivery) visits k c.args.self.delivery _ c.amounts_of-amounts.result.delivery c.requires.in_list c.requires.mark.delivery c.amounts_of-amounts.ensures.delivery delivery)
    (sum-next (λ place. (client_at p place).pickup) visits k c.args.self.pickup _ c.amounts_of-amounts.result.pickup c.requires.in_list c.requires.mark.pickup c.amounts_of-amounts.ensures.pickup pickup)
    prize c.place.ensures (ap (λ (n : ℕ). c.args.self.reloads + n) c.amounts_of-amounts.ensures.reloads) c.requires.leg c.requires.over
