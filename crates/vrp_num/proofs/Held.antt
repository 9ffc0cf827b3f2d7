-- The parts of a number and what they come to, from their digits, a place and the digits behind it.
use Rattle.std.proofs.Common.{◌≡◌, sym, ℕ, ◌+◌, ◌-◌, ◌*◌, ◌/◌, ◌%◌, ◌^◌, ◌<◌, ◌≤◌, min, Bool, true, false, not, ◌&&◌, ◌||◌, eqb, ltb, List, [], ◌∷◌, ◌++◌, length, take, drop, refl, ◌∙◌, ap, ap₂, arith, inl, inr, ◌⊎◌, pos, neg_ℤ, Ok, Err, Result, length-append, mul-le-mul_right, eq-eqb, ne_eqb, lt-ltb, le-ltb, mod-lt, mul_assoc, add-zero, add-mul, ltb-false, subst, lit≤}
use Rattle.std.specs.Prelude.{if◌then◌else◌}
use Rattle.std.specs.List.{list_all}
use Rattle.std.specs.Str.Parse.{AllDigits, digits_value}
use Rattle.std.proofs.lemmas.Bool.{cases_lt, cases_order, cases_eq}
use Rattle.std.proofs.lemmas.Nat.{pow-add, div-add-mod'}
use Rattle.vrp_num.specs.declared.decimal.Decimal.{Decimal}
use Rattle.vrp_num.specs.declared.decimal.NumberFault.{NumberFault}
use Rattle.vrp_num.specs.declared.decimal.NumberFault.TheVariants.{TooLarge, TooFine}
use Rattle.vrp_num.specs.DecimalText.{Parts, AreDigits, digits_of, tens_up, tens_down, spells_whole, held}
use Rattle.vrp_num.proofs.Scaled.{most, powers, is_zero, cut_at, same_place}

-- an exponent above the most moves the point past all digits
place_is : (is_small : Bool) (w f n x j k : ℕ) → n ≤ 6 → w < 2 ^ 63 → f < 2 ^ 63 → j ≡ (if is_small then w + n - min x most else w + n + min x most) →
    k ≡ w + f + ((if is_small then 0 else x) + n) - (f + (if is_small then x else 0)) → (j ≡ k) ⊎ ((w + f + 20 ≤ j) × (w + f + 20 ≤ k))
place_is true w f n x j k near ws fs e h = inl (omega (arith, near, ws, fs, e, h))
place_is false w f n x j k near ws fs e h = elim (cases_lt most x) [
  | inl above ↦ inr (omega (arith, near, ws, fs, e, h, above), omega (arith, near, ws, fs, e, h, above))
  | inr below ↦ inl (omega (arith, near, ws, fs, e, h, below))
]

digits_joined : (xs ys : List ℕ) → AllDigits 10 xs → AllDigits 10 ys → AllDigits 10 (xs ++ ys)
digits_joined [] ys a b = b
digits_joined (c ∷ xs) ys a b = (a.0, digits_joined xs ys a.1 b)

-- the place so many digits behind the point, which the exponent moves
abbrev pub place : Parts → ℕ → ℕ
place p n = if p.is_small then length p.whole + n - min (digits_value 10 p.exponent) most else length p.whole + n + min (digits_value 10 p.exponent) most

pub told : (p : Parts) (n j : ℕ) → AreDigits p → length p.whole < 2 ^ 63 → length p.fraction < 2 ^ 63 → n ≤ 6 → j ≡ place p n →
    (min (digits_value 10 (take j (p.whole ++ p.fraction)) * 10 ^ (j - length (p.whole ++ p.fraction))) most ≡ min (digits_of p * 10 ^ (tens_up p + n) / 10 ^ tens_down p) most)
    × (list_all is_zero (drop j (p.whole ++ p.fraction)) ≡ eqb (digits_of p * 10 ^ (tens_up p + n) % 10 ^ tens_down p) 0)
told p n j all ws fs near e =
    let ds = p.whole ++ p.fraction in
    let k = length ds + (tens_up p + n) - tens_down p in
    let size : length ds ≡ length p.whole + length p.fraction = length-append p.whole p.fraction in
    let found = place_is p.is_small (length p.whole) (length p.fraction) n (digits_value 10 p.exponent) j k near ws fs e (ap (λ x. x + (tens_up p + n) - tens_down p) size) in
    let far : (j ≡ k) ⊎ ((length ds + 20 ≤ j) × (length ds + 20 ≤ k)) =
    let P : ℕ → Type 0 = λ x. (j ≡ k) ⊎ ((x + 20 ≤ j) × (x + 20 ≤ k)) in subst P (sym size) found in
    let same = same_place ds j k far in
    let cut = cut_at ds (tens_up p + n) (tens_down p) k (digits_joined p.whole p.fraction all.0 all.1) refl in
    (same.0 ∙ ap (λ x. min x most) (sym cut.0), same.1 ∙ sym cut.1)

-- what is made of a size in millionths, cut, and of whether nothing was cut off
abbrev pub decided : Bool → ℕ → Bool → Result Decimal NumberFault
decided is_negative size is_fine =
    if ltb (10 ^ 18) size || (eqb size (10 ^ 18) && not is_fine) then Err TooLarge else (if not is_fine then Err TooFine else Ok (record {
      micro = if is_negative then neg_ℤ (pos size) else pos size;
    }))

joined : (is_negative large is_fine : Bool) (x size : ℕ) → large ≡ (ltb (10 ^ 18) size || (eqb size (10 ^ 18) && not is_fine)) → (large ≡ false → size ≡ x) →
    (if large then Err TooLarge else (if not is_fine then Err TooFine else Ok (let d : Decimal = record { micro = let m = pos x in if is_negative then neg_ℤ m else m } in d))) ≡ decided is_negative size is_fine
joined is_negative true is_fine x size e h = rw (← e) refl
joined is_negative false is_fine x size e h = rw (← e, h refl) refl

quotient_above : (n m x r : ℕ) → n * 10 ^ 6 ≡ x * m + r → 10 ^ 18 < x → 0 < m → 10 ^ 12 * m < n
quotient_above n m x r e above some =
    let large : (10 ^ 18 + 1) * m ≤ x * m = mul-le-mul_right m (omega (arith, above)) in
    omega (arith, e, large, some)

quotient_below : (n m x r : ℕ) → n * 10 ^ 6 ≡ x * m + r → x < 10 ^ 18 → r < m → n ≤ 10 ^ 12 * m
quotient_below n m x r e below rest =
    let small : (x + 1) * m ≤ 10 ^ 18 * m = mul-le-mul_right m (omega (arith, below)) in
    let parts : (x + 1) * m ≡ x * m + 1 * m = add-mul x 1 m in
    omega (arith, e, small, parts, rest)

quotient_at : (n m x r : ℕ) → n * 10 ^ 6 ≡ x * m + r → x ≡ 10 ^ 18 → n * 10 ^ 6 ≡ 10 ^ 18 * m + r
quotient_at n m x r e h = e ∙ ap (λ y. y * m + r) h

large_is : (n m x r size : ℕ) → n * 10 ^ 6 ≡ x * m + r → r < m → size ≡ min x most →
    ltb (10 ^ 12 * m) n ≡ (ltb (10 ^ 18) size || (eqb size (10 ^ 18) && not (eqb r 0)))
large_is n m x r size e rest h = elim (cases_order x (10 ^ 18)) [
  | inl at ↦
      let same : size ≡ 10 ^ 18 = omega (arith, h, at) in
      let whole = quotient_at n m x r e at in
      elim (cases_eq r 0) [
        | inl none ↦ rw (le-ltb (10 ^ 12 * m) n (omega (arith, whole, none)), same, eq-eqb r 0 none) refl
        | inr some ↦ rw (lt-ltb (10 ^ 12 * m) n (omega (arith, whole, some)), same, ne_eqb r 0 some) refl
      ]
  | inr other ↦ elim other [
    | inl below ↦
        rw (le-ltb (10 ^ 12 * m) n (quotient_below n m x r e below rest), le-ltb (10 ^ 18) size (omega (arith, h, below)), ne_eqb size (10 ^ 18) (λ q. omega (arith, h, below, q))) refl
    | inr above ↦
        rw (lt-ltb (10 ^ 12 * m) n (quotient_above n m x r e above (omega (arith, rest))), lt-ltb (10 ^ 18) size (omega (arith, h, above))) refl
  ]
]

within : (n m x r size : ℕ) → n * 10 ^ 6 ≡ x * m + r → r < m → size ≡ min x most → ltb (10 ^ 12 * m) n ≡ false → size ≡ x
within n m x r size e rest h small = elim (cases_lt (10 ^ 18) x) [
  | inl above ↦ absurd (omega (arith, quotient_above n m x r e above (omega (arith, rest)), ltb-false (10 ^ 12 * m) n small))
  | inr below ↦ omega (arith, h, below)
]

held_at : (p : Parts) (q r size : ℕ) (is_fine : Bool) → digits_of p * 10 ^ tens_up p * 10 ^ 6 / 10 ^ tens_down p ≡ q → digits_of p * 10 ^ tens_up p * 10 ^ 6 % 10 ^ tens_down p ≡ r →
    size ≡ min q most → is_fine ≡ eqb r 0 → held p ≡ decided p.is_negative size is_fine
held_at p q r size is_fine e f g h =
    let n = digits_of p * 10 ^ tens_up p in
    let m = 10 ^ tens_down p in
    let whole : n * 10 ^ 6 ≡ q * m + r = sym (div-add-mod' (n * 10 ^ 6) m) ∙ ap₂ (λ x y. x * m + y) e f in
    let rest : r < m = rw f at (mod-lt (n * 10 ^ 6) (powers (tens_down p))) in
    rw (e, f, ← h) (joined p.is_negative (ltb (10 ^ 12 * m) n) is_fine q size (rw h (large_is n m q r size whole rest g)) (within n m q r size whole rest g))

-- the number as a decimal, from its size in millionths, cut, and from whether nothing was cut off
pub held_is : (p : Parts) (size : ℕ) (is_fine : Bool) → size ≡ min (digits_of p * 10 ^ (tens_up p + 6) / 10 ^ tens_down p) most →
    is_fine ≡ eqb (digits_of p * 10 ^ (tens_up p + 6) % 10 ^ tens_down p) 0 → held p ≡ decided p.is_negative size is_fine
held_is p size is_fine e f =
    let n : digits_of p * 10 ^ (tens_up p + 6) ≡ digits_of p * 10 ^ tens_up p * 10 ^ 6 =
    ap (λ x. digits_of p * x) (pow-add 10 (tens_up p) 6) ∙ sym (mul_assoc (digits_of p) (10 ^ tens_up p) (10 ^ 6)) in
    held_at p (digits_of p * 10 ^ tens_up p * 10 ^ 6 / 10 ^ tens_down p) (digits_of p * 10 ^ tens_up p * 10 ^ 6 % 10 ^ tens_down p) size is_fine refl refl
    (e ∙ ap (λ x. min (x / 10 ^ tens_down p) most) n) (f ∙ ap (λ x. eqb (x % 10 ^ tens_down p) 0) n)

-- the number is whole where nothing is cut off at its point
pub whole_is : (p : Parts) (is_whole : Bool) → is_whole ≡ eqb (digits_of p * 10 ^ (tens_up p + 0) % 10 ^ tens_down p) 0 → is_whole ≡ spells_whole p
whole_is p is_whole e = e ∙ ap (λ x. eqb (digits_of p * 10 ^ x % 10 ^ tens_down p) 0) (add-zero (tens_up p))

-- the same from the digits and the place of a millionth
pub found : (p : Parts) (j size : ℕ) (is_fine : Bool) → AreDigits p → (length p.whole < 2 ^ 63) × (length p.fraction < 2 ^ 63) → j ≡ place p 6 →
    size ≡ min (digits_value 10 (take j (p.whole ++ p.fraction)) * 10 ^ (j - length (p.whole ++ p.fraction))) most →
    is_fine ≡ list_all is_zero (drop j (p.whole ++ p.fraction)) → held p ≡ decided p.is_negative size is_fine
found p j size is_fine all short e f g =
    let known = told p 6 j all short.0 short.1 (lit≤ tt) e in
    held_is p size is_fine (f ∙ known.0) (g ∙ known.1)

-- the decision on a size, by the test of its limit
abbrev exceeds : ℕ → Bool → Bool
exceeds size is_fine = ltb (10 ^ 18) size || (eqb size (10 ^ 18) && not is_fine)

pub decided_large : (is_negative large is_fine : Bool) (size : ℕ) → large ≡ exceeds size is_fine → large ≡ true → decided is_negative size is_fine ≡ Err TooLarge
decided_large is_negative large is_fine size e h = rw (← e, h) refl

pub decided_fine : (is_negative large is_fine : Bool) (size : ℕ) → large ≡ exceeds size is_fine → large ≡ false → is_fine ≡ false → decided is_negative size is_fine ≡ Err TooFine
decided_fine is_negative large is_fine size e h k = rw (← e, h, k) refl

pub decided_value : (is_negative sign large is_fine : Bool) (size : ℕ) (value : Decimal) → sign ≡ is_negative → large ≡ exceeds size is_fine → large ≡ false → is_fine ≡ true →
    value.micro ≡ (if sign then neg_ℤ (pos size) else pos size) → decided is_negative size is_fine ≡ Ok value
decided_value is_negative sign large is_fine size value s e h k m = rw (← e, h, k, ← s, ← m) refl
