use Rattle.std.proofs.Common.{◌≡◌, ◌+◌, length, arith, sym, ◌∙◌, subst, w64, ℤ, to_z, of_z}
use Rattle.std.proofs.lemmas.Int.{ints}
use Rattle.star_places.specs.Growths.{IsSmall, growth_of, without}
use Rattle.star_places.specs.Places.{IsLeastSpot}
use Rattle.star_places.proofs.SmallGrowths.{small-without}
use Rattle.star_places.proofs.without.best_without.Goals as goal

pub returns-clause-least : goal.returns-clause-least
returns-clause-least c =
    let route = c.args.route.now in
    let few = c.visits.ensures.listed.few in
    let small = c.growth_instead-instead.ensures.small in
    let same : to_z w64 (of_z w64 c.growth_instead-instead.result) ≡ c.growth_instead-instead.result = omega (arith, ints, small) in
    subst (λ (z : ℤ). IsLeastSpot (without c.args.position z (growth_of route c.args.client)) (length route.visits) c.better_of.result) (same ∙ c.growth_instead-instead.ensures.growth)
    (c.better_of.ensures (growth_of route c.args.client) (length route.visits) c.requires.position (omega (arith, few))
    (c.not_beside.ensures (growth_of route c.args.client) (length route.visits + 1) (omega (arith, few)) c.requires.three))

pub returns-clause-small : goal.returns-clause-small
returns-clause-small c =
    let route = c.args.route.now in
    let few = c.visits.ensures.listed.few in
    let small = c.growth_instead-instead.ensures.small in
    let same : to_z w64 (of_z w64 c.growth_instead-instead.result) ≡ c.growth_instead-instead.result = omega (arith, ints, small) in
    let least = subst (λ (z : ℤ). IsLeastSpot (without c.args.position z (growth_of route c.args.client)) (length route.visits) c.better_of.result) (same ∙ c.growth_instead-instead.ensures.growth)
    (c.better_of.ensures (growth_of route c.args.client) (length route.visits) c.requires.position (omega (arith, few))
    (c.not_beside.ensures (growth_of route c.args.client) (length route.visits + 1) (omega (arith, few)) c.requires.three)) in
    subst IsSmall (sym least.growth) (small-without route c.growths_are_small.ensures c.args.position c.args.client c.better_of.result.place)
