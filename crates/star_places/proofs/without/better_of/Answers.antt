use Rattle.std.proofs.Common.{◌≡◌, ◌-◌, refl, sym, arith, rules, subst, w64, ℕ, ℤ, ◌<ℤ◌, ◌≤ℤ◌, FitsSigned, to_z, of_z}
use Rattle.std.proofs.lemmas.Int.{ints}
use Rattle.star_places.specs.Growths.{without}
use Rattle.star_places.specs.Places.{IsLeastSpot}
use Rattle.star_places.proofs.ApartLaws.{kept-early, kept-late, own-best, own-early, own-late}
use Rattle.star_places.proofs.without.better_of.Goals as goal

-- a spot that was put together
made : (g : ℕ → ℤ) (n : ℕ) (growth growth' : ℤ) (place place' : ℕ) → growth' ≡ growth → place' ≡ place → IsLeastSpot g n (record { growth = growth; place = place }) →
    IsLeastSpot g n (record { growth = growth'; place = place' })
made g n growth growth' place place' e k is = subst (IsLeastSpot g n) (λ i. record { growth = sym e i; place = sym k i }) is

pub returns-then-kept-instead : goal.returns-then-kept-instead
returns-then-kept-instead c =
    let most : c.args.kept.growth ≤ℤ c.args.instead = grind (arith, ints) in
    λ f n in_list few best. kept-early f n c.args.position c.args.instead c.args.kept in_list few c.requires best c.if-kept-position.true most

pub returns-else-kept-instead : goal.returns-else-kept-instead
returns-else-kept-instead c =
    let more : c.args.instead <ℤ c.args.kept.growth = grind (arith, ints) in
    let no_more : c.args.instead ≤ℤ c.args.kept.growth = omega (arith, ints, more) in
    let same : to_z w64 (of_z w64 c.args.instead) ≡ c.args.instead = omega (arith, ints) in
    λ f n in_list few best. made (without c.args.position c.args.instead f) n c.args.instead _ c.args.position c.args.position same refl
    (own-best f n c.args.position c.args.instead c.args.kept in_list few c.requires best (own-early f n c.args.position c.args.instead c.args.kept in_list few c.requires best more) no_more)

pub returns-then-kept-instead-2 : goal.returns-then-kept-instead-2
returns-then-kept-instead-2 c =
    let less : c.args.kept.growth <ℤ c.args.instead = grind (arith, ints) in
    let fits : FitsSigned w64 c.args.kept.growth = search rules in
    let same : to_z w64 (of_z w64 c.args.kept.growth) ≡ c.args.kept.growth = omega (arith, ints, fits) in
    λ f n in_list few best. made (without c.args.position c.args.instead f) n c.args.kept.growth _ (c.args.kept.place - 1) _ same c.saturating_sub.ensures
    (kept-late f n c.args.position c.args.instead c.args.kept in_list few c.requires best c.if-kept-position.false less)

pub returns-else-kept-instead-2 : goal.returns-else-kept-instead-2
returns-else-kept-instead-2 c =
    let no_more : c.args.instead ≤ℤ c.args.kept.growth = grind (arith, ints) in
    let same : to_z w64 (of_z w64 c.args.instead) ≡ c.args.instead = omega (arith, ints) in
    λ f n in_list few best. made (without c.args.position c.args.instead f) n c.args.instead _ c.args.position c.args.position same refl
    (own-best f n c.args.position c.args.instead c.args.kept in_list few c.requires best (own-late f n c.args.position c.args.instead c.args.kept in_list few c.requires best c.if-kept-position.false no_more) no_more)
