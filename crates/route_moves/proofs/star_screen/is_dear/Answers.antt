use Rattle.std.proofs.Common.{◌≡◌, ◌≤◌, ◌+◌, ℕ, true, refl, ap, arith, of_z, to_z, w64}
use Rattle.std.specs.Prelude.{ℤ, min, nat_abs, nat_le, pos}
use Rattle.std.proofs.lemmas.Bool.Decides.{nat_tests}
use Rattle.std.proofs.lemmas.Int.{ints}
use Rattle.routing_model.specs.Listed.{type_of_vehicle}
use Rattle.routing_model.specs.Routes.{list_at}
use Rattle.move_core.specs.Searches.{largest_rest, rest_of}
use Rattle.route_moves.proofs.StarCosts.{star-dear}
use Rattle.route_moves.proofs.star_screen.is_dear.Goals as goal

-- a rest, as the code hands it on
kept : (z : ℤ) (n : ℕ) → z ≡ pos n → n ≤ largest_rest → nat_abs (to_z w64 (of_z w64 z)) ≡ n
kept z n is small = ap nat_abs (same z n is small)
  where
    same : (z : ℤ) (n : ℕ) → z ≡ pos n → n ≤ largest_rest → to_z w64 (of_z w64 z) ≡ pos n
    same z n is small = omega (arith, ints)

cut : (n : ℕ) → min largest_rest n ≤ largest_rest
cut n = omega arith

at-most : (m n : ℕ) → nat_le m n ≡ true → m ≤ n
at-most m n h = grind (arith, nat_tests)

pub returns : goal.returns
returns c = λ told.
    let s = c.args.search.now in
    let i = c.args.first in
    let j = c.args.second in
    let rest : ℕ = rest_of s.problem s.weights (type_of_vehicle s.problem i) (list_at s.routes i) in
    let other : ℕ = rest_of s.problem s.weights (type_of_vehicle s.problem j) (list_at s.routes j) in
    let is_rest : nat_abs (to_z w64 (of_z w64 c.rest-rest.result)) ≡ rest = kept c.rest-rest.result rest c.rest-rest.ensures.rest (cut _) in
    let is_other : nat_abs (to_z w64 (of_z w64 c.rest-other.result)) ≡ other = kept c.rest-other.result other c.rest-other.ensures.rest (cut _) in
    let sum = c.from.ensures in
    let dear = at-most (c.swing_of-one.result.fall + c.swing_of-two.result.fall + c.from.result) (c.swing_of-one.result.rise + c.swing_of-two.result.rise) told in
    star-dear s c.soundness.ensures i j c.args.pair c.requires c.swing_of-one.result c.swing_of-two.result rest other c.swing_of-one.ensures c.swing_of-two.ensures refl refl
    (let low = c.if-rest-ge-CUT.false in omega (arith, low, is_rest)) (let low = c.if-other-ge-CUT.false in omega (arith, low, is_other)) (omega (arith, dear, sum, is_rest, is_other))
