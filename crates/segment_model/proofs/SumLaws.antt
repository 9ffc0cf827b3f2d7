-- Sums and largest sums of integers, grouped anew.
use Rattle.std.proofs.Common.{◌≡◌, arith}
use Rattle.std.specs.Prelude.{ℤ, pos, ◌+ℤ◌, ◌≤ℤ◌}
use Rattle.std.specs.Int.{int_max}
use Rattle.std.proofs.lemmas.Int.{ints, clamps}

pub sum-zero_left : (x : ℤ) → pos 0 +ℤ x ≡ x
sum-zero_left x = omega (arith, ints)

pub sum-zero_right : (x : ℤ) → x +ℤ pos 0 ≡ x
sum-zero_right x = omega (arith, ints)

pub sum-zeros_left : (x : ℤ) → (pos 0 +ℤ x) +ℤ pos 0 ≡ x
sum-zeros_left x = omega (arith, ints)

pub sum-zeros_right : (x : ℤ) → (x +ℤ pos 0) +ℤ pos 0 ≡ x
sum-zeros_right x = omega (arith, ints)

pub sum-assoc : (x y z : ℤ) → (x +ℤ y) +ℤ z ≡ x +ℤ (y +ℤ z)
sum-assoc x y z = omega (arith, ints)

pub sum-assoc_joints : (x y z first second : ℤ) → (((x +ℤ y) +ℤ first) +ℤ z) +ℤ second ≡ (x +ℤ ((y +ℤ z) +ℤ second)) +ℤ first
sum-assoc_joints x y z first second = omega (arith, ints)

-- the load of nothing and one
pub largest-zero_left : (delivery load : ℤ) → delivery ≤ℤ load → int_max (pos 0 +ℤ delivery) (pos 0 +ℤ load) ≡ load
largest-zero_left delivery load h = omega (arith, ints, clamps)

-- the load of one and nothing
pub largest-zero_right : (pickup load : ℤ) → pickup ≤ℤ load → int_max (load +ℤ pos 0) (pickup +ℤ pos 0) ≡ load
largest-zero_right pickup load h = omega (arith, ints, clamps)

-- the load of three
pub largest-assoc : (load1 pickup1 delivery2 pickup2 load2 delivery3 load3 : ℤ) →
    int_max (int_max (load1 +ℤ delivery2) (pickup1 +ℤ load2) +ℤ delivery3) ((pickup1 +ℤ pickup2) +ℤ load3)
    ≡ int_max (load1 +ℤ (delivery2 +ℤ delivery3)) (pickup1 +ℤ int_max (load2 +ℤ delivery3) (pickup2 +ℤ load3))
largest-assoc load1 pickup1 delivery2 pickup2 load2 delivery3 load3 = omega (arith, ints, clamps)
