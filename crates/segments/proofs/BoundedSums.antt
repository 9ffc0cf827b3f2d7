-- Sums of bounded integers are those that the code computes.
use Rattle.std.proofs.Common.{◌≡◌, arith, w64, FitsSigned, to_z, of_z}
use Rattle.std.specs.Prelude.{ℤ, ◌+ℤ◌, ◌-ℤ◌}
use Rattle.std.proofs.lemmas.Int.{ints}
use Rattle.segments.specs.Totals.{IsJoint, IsTotal}
use Rattle.segments.specs.inside.Moments.{IsNear, IsShift}

-- as the code has it between two steps
abbrev pub kept : ℤ → ℤ
kept z = to_z w64 (of_z w64 z)

pub four_fit : (a b c d : ℤ) → IsTotal a → IsTotal b → IsJoint c → IsNear d → FitsSigned w64 (kept (kept (kept a +ℤ kept b) +ℤ kept c) +ℤ kept d)
four_fit a b c d ha hb hc hd = omega (arith, ints)

pub four-sum : (a b c d e : ℤ) → IsTotal a → IsTotal b → IsJoint c → IsNear d → d ≡ e → kept (kept (kept (kept a +ℤ kept b) +ℤ kept c) +ℤ kept d) ≡ ((a +ℤ b) +ℤ c) +ℤ e
four-sum a b c d e ha hb hc hd is = omega (arith, ints)

pub three_fit : (a b c : ℤ) → IsTotal a → IsTotal b → IsNear c → FitsSigned w64 (kept (kept a +ℤ kept b) +ℤ kept c)
three_fit a b c ha hb hc = omega (arith, ints)

pub three-sum : (a b c e : ℤ) → IsTotal a → IsTotal b → IsNear c → c ≡ e → kept (kept (kept a +ℤ kept b) +ℤ kept c) ≡ (a +ℤ b) +ℤ e
three-sum a b c e ha hb hc is = omega (arith, ints)

pub two_fit : (a b : ℤ) → IsNear a → IsNear b → FitsSigned w64 (kept a +ℤ kept b)
two_fit a b ha hb = omega (arith, ints)

pub two-sum : (a b d e : ℤ) → IsNear a → IsNear b → a ≡ d → b ≡ e → kept (kept a +ℤ kept b) ≡ d +ℤ e
two-sum a b d e ha hb is_d is_e = omega (arith, ints)

pub difference_fits : (a b : ℤ) → IsNear a → IsNear b → FitsSigned w64 (kept a -ℤ kept b)
difference_fits a b ha hb = omega (arith, ints)

pub two-difference : (a b d e : ℤ) → IsNear a → IsNear b → a ≡ d → b ≡ e → kept (kept a -ℤ kept b) ≡ d -ℤ e
two-difference a b d e ha hb is_d is_e = omega (arith, ints)

pub kept-joint : (z : ℤ) → IsJoint z → kept z ≡ z
kept-joint z h = omega (arith, ints)

pub kept-shift : (z : ℤ) → IsShift z → kept z ≡ z
kept-shift z h = omega (arith, ints)
