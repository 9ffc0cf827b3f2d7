use Rattle.std.proofs.Common.{◌≡◌, ℕ, ◌+◌, ◌≤◌, get_or, subst, arith, w64, ℤ, pos, ◌+ℤ◌, ◌-ℤ◌, to_z, of_z}
use Rattle.std.proofs.lemmas.Int.{ints}
use Rattle.problem_data.specs.Limits.{largest_leg}
use Rattle.problem_data.specs.Places.{leg_distance}
use Rattle.routing_model.specs.Listed.{type_of_vehicle}
use Rattle.route_cache.specs.Marks.{place_along}
use Rattle.route_cache.proofs.MarkFacts.{no_mark}
use Rattle.route_cache.proofs.MarkPaths.{mark-leg}
use Rattle.star_places.proofs.OverLegs.{mark-over}
use Rattle.star_places.proofs.insertion.gone.Goals as goal

-- one leg and another less a third
less : (f g h : ℤ) (a b d x y z : ℕ) → f ≡ pos a → g ≡ pos b → h ≡ pos d → a ≤ largest_leg → b ≤ largest_leg → d ≤ largest_leg → a ≡ x → b ≡ y → d ≡ z →
    to_z w64 (of_z w64 (to_z w64 (of_z w64 (to_z w64 (of_z w64 f) +ℤ to_z w64 (of_z w64 g))) -ℤ to_z w64 (of_z w64 h))) ≡ pos x +ℤ pos y -ℤ pos z
less f g h a b d x y z e k l m n o q r s = omega (arith, ints)

pub returns-clause-gone : goal.returns-clause-gone
returns-clause-gone c =
    let route = c.args.route.now in
    let t = type_of_vehicle route.problem route.vehicle in
    let i = c.args.position in
    let marks = c.marks-marks.result.now in
    let are = c.marks-marks.ensures in
    let next : i + 1 + 1 ≡ i + 2 = omega arith in
    let on = subst (λ (n : ℕ). (get_or marks n no_mark).leg ≡ leg_distance route.problem t.profile (place_along t route.visits (i + 1)) (place_along t route.visits n)) next
    (mark-leg route.problem t route.visits marks are no_mark (i + 1) (omega arith)) in
    less c.from.result c.from-2.result c.from-3.result _ _ _ _ _ _ c.from.ensures c.from-2.ensures c.from-3.ensures
    (are.each_small (i + 1) no_mark (omega arith)).leg (are.each_small (i + 2) no_mark (omega arith)).leg (are.each_small (i + 1) no_mark (omega arith)).over
    (mark-leg route.problem t route.visits marks are no_mark i (omega arith)) on (mark-over route.problem t route.visits marks are no_mark i c.requires)
