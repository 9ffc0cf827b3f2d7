-- A leg between places within the largest coordinates is within the largest leg.
use Rattle.std.proofs.Common.{◌≡◌, ℕ, ◌-◌, ◌*◌, ◌^◌, ◌≤◌, inl, inr, arith, rules}
use Rattle.std.specs.Prelude.{ℤ, ◌-ℤ◌, nat_abs}
use Rattle.std.proofs.lemmas.Bool.{cases_lt}
use Rattle.std.proofs.lemmas.Nat.{mul-le}
use Rattle.std.proofs.lemmas.Int.{ints}
use Rattle.vrp_num.specs.declared.rounding.Rounding.{Rounding}
use Rattle.vrp_num.specs.declared.rounding.Rounding.TheVariants.{Round, Trunc, Dimacs, Exact}
use Rattle.vrp_num.specs.Rounding.{IsCutRoot, IsDistance, IsNearestRoot, square}

square_is : (n : ℕ) → n ^ 2 ≡ n * n
square_is n = search rules

span_bound : (a b : ℤ) → nat_abs a ≤ 10 ^ 12 → nat_abs b ≤ 10 ^ 12 → nat_abs (a -ℤ b) ^ 2 ≤ 4 * 10 ^ 24
span_bound a b ha hb =
    let span : nat_abs (a -ℤ b) ≤ 2 * 10 ^ 12 = omega (arith, ints) in
    rw square_is (mul-le (nat_abs (a -ℤ b)) (nat_abs (a -ℤ b)) (2 * 10 ^ 12) (2 * 10 ^ 12) span span)

abbrev pub AreWithin : ℤ × ℤ → Type 0
AreWithin a = (nat_abs a.0 ≤ 10 ^ 12) × (nat_abs a.1 ≤ 10 ^ 12)

pub square_bound : (mode : Rounding) (a b : ℤ × ℤ) → AreWithin a → AreWithin b → square mode a b ≤ 8 * 10 ^ 30
square_bound Round a b ha hb = omega (arith, span_bound a.0 b.0 ha.0 hb.0, span_bound a.1 b.1 ha.1 hb.1)
square_bound Trunc a b ha hb = omega (arith, span_bound a.0 b.0 ha.0 hb.0, span_bound a.1 b.1 ha.1 hb.1)
square_bound Dimacs a b ha hb = omega (arith, span_bound a.0 b.0 ha.0 hb.0, span_bound a.1 b.1 ha.1 hb.1)
square_bound Exact a b ha hb = omega (arith, span_bound a.0 b.0 ha.0 hb.0, span_bound a.1 b.1 ha.1 hb.1)

cut_within : (q m : ℕ) → q ≤ 8 * 10 ^ 30 → IsCutRoot q m → m ≤ 4 * 10 ^ 9
cut_within q m h r = elim (cases_lt (4 * 10 ^ 9) m) [
  | inl above ↦
      let many : 4 * 10 ^ 9 * (4 * 10 ^ 9) ≤ m * m = mul-le (4 * 10 ^ 9) (4 * 10 ^ 9) m m (omega arith) (omega arith) in
      absurd (omega (arith, many, square_is m, r.0, h))
  | inr within ↦ within
]

nearest_within : (q m : ℕ) → q ≤ 8 * 10 ^ 30 → IsNearestRoot q m → m ≤ 4 * 10 ^ 9
nearest_within q m h r = elim (cases_lt (4 * 10 ^ 9) m) [
  | inl above ↦
      let least : 8 * 10 ^ 9 ≤ 2 * m - 1 = omega arith in
      let many : 8 * 10 ^ 9 * (8 * 10 ^ 9) ≤ (2 * m - 1) * (2 * m - 1) = mul-le (8 * 10 ^ 9) (8 * 10 ^ 9) (2 * m - 1) (2 * m - 1) least least in
      absurd (omega (arith, many, square_is (2 * m - 1), r.0, h))
  | inr within ↦ within
]

pub leg_within : (mode : Rounding) (a b : ℤ × ℤ) (m : ℕ) → AreWithin a → AreWithin b → IsDistance mode a b m → m ≤ 4 * 10 ^ 9
leg_within Round a b m ha hb is = nearest_within (square Round a b) m (square_bound Round a b ha hb) is
leg_within Trunc a b m ha hb is = cut_within (square Trunc a b) m (square_bound Trunc a b ha hb) is
leg_within Dimacs a b m ha hb is = cut_within (square Dimacs a b) m (square_bound Dimacs a b ha hb) is
leg_within Exact a b m ha hb is = nearest_within (square Exact a b) m (square_bound Exact a b ha hb) is
