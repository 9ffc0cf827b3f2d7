-- The functions of rounding are the numbers that the relations name.
use Rattle.std.proofs.Common.{◌≡◌, ◌≤◌, inl, inr, ℕ, zero, suc, ◌+◌, ◌-◌, ◌*◌, ◌/◌, ◌^◌, ◌<◌, Bool, true, false, refl, ◌∙◌, ap, subst, arith, rules, ℤ}
use Rattle.std.specs.Prelude.{nat_le, if◌then◌else◌}
use Rattle.std.proofs.lemmas.Bool.{cases_lt, leb-true, leb-false, le-leb, lt-leb}
use Rattle.std.proofs.Math.Nat.{pow-suc, pow-le-pow_left, mul-le-mul_right}
use Rattle.vrp_num.specs.declared.rounding.Rounding.{Rounding}
use Rattle.vrp_num.specs.declared.rounding.Rounding.TheVariants.{Round, Trunc, Dimacs, Exact}
use Rattle.vrp_num.specs.Root.{IsRoot, root, greatest, greatest_from}
use Rattle.vrp_num.specs.Rounding.{IsRounded, rounded, square, IsCutRoot, IsNearestRoot, IsDistance, distance}

chosen-passes : (test : ℕ → Bool) (base step : ℕ) (b : Bool) → test (base + step) ≡ b → test base ≡ true → test (if b then base + step else base) ≡ true
chosen-passes test base step true e p = e
chosen-passes test base step false e p = p

greatest_from-passes : (test : ℕ → Bool) (bits base : ℕ) → test base ≡ true → test (greatest_from base test bits) ≡ true
greatest_from-passes test zero base p = p
greatest_from-passes test (suc bits) base p =
    greatest_from-passes test bits (if test (base + 2 ^ bits) then base + 2 ^ bits else base)
    (chosen-passes test base (2 ^ bits) (test (base + 2 ^ bits)) refl p)

doubled : (base bits : ℕ) → base + 2 ^ bits + 2 ^ bits ≡ base + 2 ^ suc bits
doubled base bits = let e : 2 ^ suc bits ≡ 2 ^ bits * 2 = pow-suc 2 bits in omega (arith, e)

chosen-fails : (test : ℕ → Bool) (base bits : ℕ) (b : Bool) → test (base + 2 ^ bits) ≡ b → test (base + 2 ^ suc bits) ≡ false
    → test ((if b then base + 2 ^ bits else base) + 2 ^ bits) ≡ false
chosen-fails test base bits true e f = ap test (doubled base bits) ∙ f
chosen-fails test base bits false e f = e

greatest_from-fails : (test : ℕ → Bool) (bits base : ℕ) → test (base + 2 ^ bits) ≡ false → test (greatest_from base test bits + 1) ≡ false
greatest_from-fails test zero base f = f
greatest_from-fails test (suc bits) base f =
    greatest_from-fails test bits (if test (base + 2 ^ bits) then base + 2 ^ bits else base)
    (chosen-fails test base bits (test (base + 2 ^ bits)) refl f)

-- the greatest number passes, and the next one fails
pub greatest-passes : (bits : ℕ) (test : ℕ → Bool) → test 0 ≡ true → test (greatest bits test) ≡ true
greatest-passes bits test p = greatest_from-passes test bits 0 p

pub greatest-fails : (bits : ℕ) (test : ℕ → Bool) → test (2 ^ bits) ≡ false → test (greatest bits test + 1) ≡ false
greatest-fails bits test f = greatest_from-fails test bits 0 (ap test (omega arith) ∙ f)

pub root_is : (n : ℕ) → n < 2 ^ 128 → IsRoot n (root n)
unfolding root
root_is n h = (
  leb-true _ _ (greatest-passes 64 (λ m. nat_le (m * m) n) (le-leb _ _ (omega arith))),
  leb-false _ _ (greatest-fails 64 (λ m. nat_le (m * m) n) (lt-leb _ _ (omega (arith, h)))),
)

pub rounded_is : (mode : Rounding) (micro : ℕ) → IsRounded mode micro (rounded mode micro)
rounded_is Round micro = (omega arith, omega arith)
rounded_is Trunc micro = (omega arith, omega arith)
rounded_is Dimacs micro = (omega arith, omega arith)
rounded_is Exact micro = (omega arith, omega arith)

cut_is : (q : ℕ) → q < 2 ^ 128 → IsCutRoot q (greatest 64 (λ m. nat_le (m ^ 2 * 10 ^ 12) q))
cut_is q h = (
  leb-true _ _ (greatest-passes 64 (λ m. nat_le (m ^ 2 * 10 ^ 12) q) (le-leb _ _ (omega arith))),
  leb-false _ _ (greatest-fails 64 (λ m. nat_le (m ^ 2 * 10 ^ 12) q) (lt-leb _ _ (omega (arith, h)))),
)

below_next : (q r : ℕ) → 4 * q < (2 * (r + 1) - 1) ^ 2 * 10 ^ 12 → 4 * q < (2 * r + 1) ^ 2 * 10 ^ 12
below_next q r h = let e : 2 * (r + 1) - 1 ≡ 2 * r + 1 = omega arith in let P : ℕ → Type 0 = λ m. 4 * q < m ^ 2 * 10 ^ 12 in subst P e h

nearest_is : (q : ℕ) → q < 2 ^ 128 → IsNearestRoot q (greatest 64 (λ m. nat_le ((2 * m - 1) ^ 2 * 10 ^ 12) (4 * q)))
nearest_is q h =
    let test : ℕ → Bool = λ m. nat_le ((2 * m - 1) ^ 2 * 10 ^ 12) (4 * q) in
    let above : 4 * q < (2 * (greatest 64 test + 1) - 1) ^ 2 * 10 ^ 12 = leb-false _ _ (greatest-fails 64 test (lt-leb _ _ (omega (arith, h)))) in (
      leb-true _ _ (greatest-passes 64 test (le-leb _ _ (omega arith))),
      below_next q (greatest 64 test) above,
    )

pub distance_is : (mode : Rounding) (a b : ℤ × ℤ) → square mode a b < 2 ^ 128 → IsDistance mode a b (distance mode a b)
unfolding distance
distance_is Round a b h = nearest_is (square Round a b) h
distance_is Trunc a b h = cut_is (square Trunc a b) h
distance_is Dimacs a b h = cut_is (square Dimacs a b) h
distance_is Exact a b h = nearest_is (square Exact a b) h

-- no two numbers are the cut root, and no two are the nearest one
square_le : (c m n q : ℕ) → m ^ 2 * c ≤ q → q < (n + 1) ^ 2 * c → m ≤ n
square_le c m n q low high = elim (cases_lt n m) [
  | inl below ↦
      let step : (n + 1) ^ 2 ≤ m ^ 2 = pow-le-pow_left (omega (arith, below)) 2 in
      let scaled : (n + 1) ^ 2 * c ≤ m ^ 2 * c = mul-le-mul_right c step in
      absurd (omega (arith, low, high, scaled))
  | inr above ↦ above
]

pub cut_root_is_one : (q m n : ℕ) → IsCutRoot q m → IsCutRoot q n → m ≡ n
cut_root_is_one q m n a b =
    let up = square_le (10 ^ 12) m n q a.0 b.1 in
    let down = square_le (10 ^ 12) n m q b.0 a.1 in
    omega (arith, up, down)

odd_le : (m n q : ℕ) → (2 * m - 1) ^ 2 * 10 ^ 12 ≤ q → q < (2 * n + 1) ^ 2 * 10 ^ 12 → m ≤ n
odd_le m n q low high =
    let found = square_le (10 ^ 12) (2 * m - 1) (2 * n) q low high in
    omega (arith, found)

pub nearest_root_is_one : (q m n : ℕ) → IsNearestRoot q m → IsNearestRoot q n → m ≡ n
nearest_root_is_one q m n a b =
    let up = odd_le m n (4 * q) a.0 b.1 in
    let down = odd_le n m (4 * q) b.0 a.1 in
    omega (arith, up, down)

-- a number that is the distance is `distance`
pub distance_is_one : (mode : Rounding) (a b : ℤ × ℤ) (m n : ℕ) → IsDistance mode a b m → IsDistance mode a b n → m ≡ n
distance_is_one Round a b m n x y = nearest_root_is_one (square Round a b) m n x y
distance_is_one Trunc a b m n x y = cut_root_is_one (square Trunc a b) m n x y
distance_is_one Dimacs a b m n x y = cut_root_is_one (square Dimacs a b) m n x y
distance_is_one Exact a b m n x y = nearest_root_is_one (square Exact a b) m n x y

square_is : (n : ℕ) → n ^ 2 ≡ n * n
square_is n = search rules

-- the root of four times a square, halved and rounded up, is the root to the nearest whole number
pub nearest_of_root : (q r : ℕ) → IsRoot (4 * q / 10 ^ 12) r → IsNearestRoot q ((r + 1) / 2)
nearest_of_root q r h =
    let low : (2 * ((r + 1) / 2) - 1) ^ 2 ≤ r ^ 2 = pow-le-pow_left (omega arith) 2 in
    let high : (r + 1) ^ 2 ≤ (2 * ((r + 1) / 2) + 1) ^ 2 = pow-le-pow_left (omega arith) 2 in
    (omega (arith, low, h.0, square_is r), omega (arith, high, h.1, square_is (r + 1)))
