-- Products and sums of coordinates are those that the code computes.
use Rattle.std.proofs.Common.{◌≡◌, ◌∙◌, ℕ, ◌+◌, ◌*◌, ◌^◌, ◌≤◌, ap, ap₂, arith, w64, FitsSigned, to_z, of_z}
use Rattle.std.specs.Prelude.{ℤ, pos, ◌+ℤ◌, ◌-ℤ◌, ◌*ℤ◌, int_lt, nat_abs, unsigned_abs}
use Rattle.std.proofs.lemmas.Int.{fits_signed_mul, ints, to_z-of_z}
use Rattle.problem_data.specs.Limits.{largest, most_visits}
use mir.Syntax.{w128}

abbrev wide : ℤ → ℤ
wide z = to_z w128 (of_z w128 z)

abbrev kept : ℤ → ℤ
kept z = to_z w64 (of_z w64 z)

small : (a : ℤ) → FitsSigned w64 a → unsigned_abs a ≤ 2 ^ 63
small a h = omega (arith, ints)

-- a product of two numbers of 64 bits
product : (a b : ℤ) → FitsSigned w64 a → FitsSigned w64 b → wide (wide a *ℤ wide b) ≡ a *ℤ b
product a b ha hb =
    let wa : wide a ≡ a = omega (arith, ints) in
    let wb : wide b ≡ b = omega (arith, ints) in
    ap wide (ap₂ (λ (x y : ℤ). x *ℤ y) wa wb) ∙ to_z-of_z w128 (a *ℤ b) (fits_signed_mul w128 a b (2 ^ 63) (2 ^ 63) (small a ha) (small b hb) (omega arith))

difference-above : (m n : ℤ) → int_lt m n ≡ int_lt (pos 0) (n -ℤ m)
difference-above m n = grind (arith, ints)

-- two products are compared as their difference is with 0
pub crossing : (a b c d e f g h : ℤ) → FitsSigned w64 a → FitsSigned w64 b → FitsSigned w64 c → FitsSigned w64 d → e ≡ kept a → f ≡ kept b → g ≡ kept c → h ≡ kept d →
    int_lt (wide (wide e *ℤ wide f)) (wide (wide g *ℤ wide h)) ≡ int_lt (pos 0) ((c *ℤ d) -ℤ (a *ℤ b))
crossing a b c d e f g h ha hb hc hd ea fb gc hd' =
    let same : (z : ℤ) → FitsSigned w64 z → kept z ≡ z = λ z fits. to_z-of_z w64 z fits in
    ap₂ int_lt (ap₂ (λ (x y : ℤ). wide (wide x *ℤ wide y)) (ea ∙ same a ha) (fb ∙ same b hb) ∙ product a b ha hb)
    (ap₂ (λ (x y : ℤ). wide (wide x *ℤ wide y)) (gc ∙ same c hc) (hd' ∙ same d hd) ∙ product c d hc hd)
    ∙ difference-above (a *ℤ b) (c *ℤ d)

-- how far one place lies from another
pub offset-is : (a b : ℤ) → nat_abs a ≤ largest → nat_abs b ≤ largest → kept (kept a -ℤ kept b) ≡ a -ℤ b
offset-is a b ha hb = omega (arith, ints)

pub offset-short : (a b : ℤ) → nat_abs a ≤ largest → nat_abs b ≤ largest → nat_abs (a -ℤ b) ≤ 1 * (2 * largest)
offset-short a b ha hb = omega (arith, ints)

-- sums of such
pub sum-is : (n : ℕ) (a b : ℤ) → n + 1 ≤ most_visits → nat_abs a ≤ n * (2 * largest) → nat_abs b ≤ 1 * (2 * largest) → kept (kept a +ℤ kept b) ≡ a +ℤ b
sum-is n a b few ha hb = omega (arith, ints)

pub sum-short : (n : ℕ) (a b : ℤ) → nat_abs a ≤ n * (2 * largest) → nat_abs b ≤ 1 * (2 * largest) → nat_abs (a +ℤ b) ≤ (n + 1) * (2 * largest)
sum-short n a b ha hb = omega (arith, ints)
