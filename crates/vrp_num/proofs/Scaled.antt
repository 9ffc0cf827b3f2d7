-- Digits and a power of ten: what they come to, cut at a place, and whether anything is cut off.
use Rattle.std.proofs.Common.{◌≡◌, sym, ℕ, zero, suc, ◌+◌, ◌-◌, ◌*◌, ◌/◌, ◌%◌, ◌^◌, ◌<◌, ◌≤◌, min, Bool, true, eqb, List, [], ◌∷◌, ◌++◌, length, take, drop, get_or, refl, ◌∙◌, ap, ap₂, subst, arith, inl, inr, mul_assoc, mul_comm, add-mul, mul-le-mul_right, take-append-drop, length-drop, length-append, take_all, ne_eqb, add-one, mul-le-mul, le_of_eq, le_refl, ◌&&◌, ◌⊎◌, append-nil}
use Rattle.std.specs.Char.{digit_value}
use Rattle.std.specs.List.{list_all}
use Rattle.std.specs.Str.Parse.{AllDigits, digits_value, digits_value_after}
use Rattle.std.proofs.lemmas.Bool.{cases_lt}
use Rattle.std.proofs.lemmas.List.{drop_all, take-append-le, drop-append-le}
use Rattle.std.proofs.lemmas.List.Folds.{list_all-append}
use Rattle.std.proofs.Math.Seq.{take-append-add, drop-append-add}
use Rattle.std.proofs.lemmas.Nat.{pow-add, div-mul-add, mod-mul-add}
use Rattle.std.proofs.lemmas.Int.Digits.{digits_value-lt}
use Rattle.std.proofs.Math.Nat.{pow-suc, zero-mul, one-le-pow, pow-le-pow_right, mul-div_cancel, mul-mod_left}
use Rattle.std.proofs.lemmas.Str.Parse.{digit_at as within_digits, digit_from_value}
use Rattle.std.proofs.lemmas.Bool.Decides.{nat_tests}

-- the largest number of 64 bits
abbrev pub most : ℕ
most = 2 ^ 64 - 1

pub powers : (n : ℕ) → 0 < 10 ^ n
powers n = one-le-pow n 10 (omega arith)

value_of_code : (c : ℕ) → 48 ≤ c → c ≤ 57 → digit_value c ≡ c - 48
value_of_code c low high = grind (arith, low, high)

further : (n d p v q w : ℕ) → q ≡ p * 10 → w ≡ (0 * 10 + d) * p + v → (n * 10 + d) * p + v ≡ n * q + w
further n d p v q w e f =
    let a : (n * 10 + d) * p ≡ n * 10 * p + d * p = add-mul (n * 10) d p in
    let b : n * 10 * p ≡ n * q = mul_assoc n 10 p ∙ ap (λ x. n * x) (mul_comm 10 p ∙ sym e) in
    let c : (0 * 10 + d) * p ≡ d * p = ap (λ x. x * p) (omega arith) in
    omega (arith, a, b, c, f)

-- digits behind those of a number
pub after_is : (n : ℕ) (ds : List ℕ) → digits_value_after 10 n ds ≡ n * 10 ^ length ds + digits_value 10 ds
after_is n [] = omega arith
after_is n (c ∷ cs) =
    after_is (n * 10 + digit_value c) cs
    ∙ further n (digit_value c) (10 ^ length cs) (digits_value 10 cs) (10 ^ length (c ∷ cs)) (digits_value 10 (c ∷ cs)) (pow-suc 10 (length cs)) (after_is (0 * 10 + digit_value c) cs)

grows : (n : ℕ) (ds : List ℕ) → n ≤ digits_value_after 10 n ds
grows n [] = omega arith
grows n (c ∷ cs) = omega (arith, grows (n * 10 + digit_value c) cs)

pub after-append : (n : ℕ) (xs ys : List ℕ) → digits_value_after 10 n (xs ++ ys) ≡ digits_value_after 10 (digits_value_after 10 n xs) ys
after-append n [] ys = refl
after-append n (c ∷ xs) ys = after-append (n * 10 + digit_value c) xs ys

-- one digit more
after_suc : (n : ℕ) (ds : List ℕ) (i : ℕ) → i < length ds →
    digits_value_after 10 n (take (suc i) ds) ≡ digits_value_after 10 n (take i ds) * 10 + digit_value (get_or ds i 0)
after_suc n [] i h = absurd (omega arith)
after_suc n (c ∷ cs) zero h = refl
after_suc n (c ∷ cs) (suc i) h = after_suc (n * 10 + digit_value c) cs i (omega arith)

pub digit_at : (ds : List ℕ) (i : ℕ) → AllDigits 10 ds → i < length ds → 48 ≤ get_or ds i 0
digit_at ds i all h = (within_digits ds i all h).0

digit_is : (ds : List ℕ) (i : ℕ) → AllDigits 10 ds → i < length ds → digit_value (get_or ds i 0) ≡ get_or ds i 0 - 48
digit_is ds i all h = let w = within_digits ds i all h in value_of_code (get_or ds i 0) w.0 w.1

capped_step : (m x y d v w : ℕ) → v ≡ min x m → w ≡ min (min (v * 10) m + y) m → y ≡ d → w ≡ min (x * 10 + d) m
capped_step m x y d v w e f g = omega (arith, e, f, g)

pub capped_more : (n v w y : ℕ) (ds : List ℕ) (i : ℕ) → AllDigits 10 ds → i < length ds → v ≡ min (digits_value_after 10 n (take i ds)) most →
    w ≡ min (min (v * 10) most + y) most → y ≡ get_or ds i 0 - 48 → w ≡ min (digits_value_after 10 n (take (i + 1) ds)) most
capped_more n v w y ds i all h e f g =
    capped_step most (digits_value_after 10 n (take i ds)) y (digit_value (get_or ds i 0)) v w e f (g ∙ sym (digit_is ds i all h))
    ∙ ap (λ x. min x most) (sym (rw add-one (after_suc n ds i h)))

-- one power more
pub scaled_more : (n v w i : ℕ) → v ≡ min (n * 10 ^ i) most → w ≡ min (v * 10) most → w ≡ min (n * 10 ^ (i + 1)) most
scaled_more n v w i e f =
    let step : n * 10 ^ (i + 1) ≡ n * 10 ^ i * 10 = ap (λ x. n * x) (rw add-one (pow-suc 10 i)) ∙ sym (mul_assoc n (10 ^ i) 10) in
    capped_step most (n * 10 ^ i) 0 0 v w e (omega (arith, f)) refl ∙ ap (λ x. min x most) (omega (arith, step))

above_most : (n p : ℕ) → 10 ^ 20 ≤ p → 1 ≤ n → min (n * p) most ≡ most
above_most n p large some =
    let at_least : 1 * p ≤ n * p = mul-le-mul_right p some in
    omega (arith, at_least, large)

-- a power above 20 tells no more than the 20th
pub scaled_at_20 : (n a b : ℕ) → 20 ≤ a → 20 ≤ b → min (n * 10 ^ a) most ≡ min (n * 10 ^ b) most
scaled_at_20 zero a b h k = rw (zero-mul (10 ^ a), zero-mul (10 ^ b)) refl
scaled_at_20 (suc n) a b h k =
    above_most (suc n) (10 ^ a) (pow-le-pow_right (omega arith) h) (omega arith)
    ∙ sym (above_most (suc n) (10 ^ b) (pow-le-pow_right (omega arith) k) (omega arith))

pub scaled_to_20 : (n a : ℕ) → min (n * 10 ^ min a 20) most ≡ min (n * 10 ^ a) most
scaled_to_20 n a = elim (cases_lt a 20) [
  | inl below ↦ ap (λ x. min (n * 10 ^ x) most) (omega (arith, below))
  | inr above ↦ scaled_at_20 n (min a 20) a (omega (arith, above)) above
]

-- a number that is cut at the most, and goes on
pub capped_after : (n : ℕ) (ds : List ℕ) → min (digits_value_after 10 (min n most) ds) most ≡ min (digits_value_after 10 n ds) most
capped_after n ds = elim (cases_lt most n) [
  | inl above ↦
      let start : min n most ≡ most = omega (arith, above) in
      omega (arith, grows (min n most) ds, grows n ds, start, above)
  | inr below ↦ ap (λ x. min (digits_value_after 10 x ds) most) (omega (arith, below))
]

pub capped_scaled : (n t : ℕ) → min (min n most * 10 ^ t) most ≡ min (n * 10 ^ t) most
capped_scaled n t = elim (cases_lt most n) [
  | inl above ↦
      let start : min n most ≡ most = omega (arith, above) in
      let low : most * 1 ≤ min n most * 10 ^ t = mul-le-mul (le_of_eq (sym start)) (powers t) in
      let high : n * 1 ≤ n * 10 ^ t = mul-le-mul (le_refl n) (powers t) in
      omega (arith, low, high, above)
  | inr below ↦ ap (λ x. min (x * 10 ^ t) most) (omega (arith, below))
]

-- the digits are split at a place
pub value_split : (k : ℕ) (ds : List ℕ) → digits_value 10 ds ≡ digits_value 10 (take k ds) * 10 ^ length (drop k ds) + digits_value 10 (drop k ds)
value_split k ds =
    ap (digits_value 10) (sym (take-append-drop k ds)) ∙ after-append 0 (take k ds) (drop k ds) ∙ after_is (digits_value 10 (take k ds)) (drop k ds)

digits_front : (k : ℕ) (ds : List ℕ) → AllDigits 10 ds → AllDigits 10 (take k ds)
digits_front zero ds all = tt
digits_front (suc k) [] all = tt
digits_front (suc k) (c ∷ cs) all = (all.0, digits_front k cs all.1)

digits_drop : (k : ℕ) (ds : List ℕ) → AllDigits 10 ds → AllDigits 10 (drop k ds)
digits_drop zero ds all = all
digits_drop (suc k) [] all = all
digits_drop (suc k) (c ∷ cs) all = digits_drop k cs all.1

abbrev pub is_zero : ℕ → Bool
is_zero b = eqb b 48

zero_more : (d p v w : ℕ) → 0 < p → w ≡ (0 * 10 + d) * p + v → eqb w 0 ≡ (eqb d 0 && eqb v 0)
zero_more zero p v w h e = ap (λ x. eqb x 0) (e ∙ omega (arith, zero-mul p))
zero_more (suc d) p v w h e =
    let large : 1 * p ≤ suc d * p = mul-le-mul_right p (omega arith) in
    let same : (0 * 10 + suc d) * p ≡ suc d * p = ap (λ x. x * p) (omega arith) in
    rw (ne_eqb (suc d) 0 (λ q. omega (arith, q))) (ne_eqb w 0 (λ q. absurd (omega (arith, e, large, same, h, q))))

zero_digit : (c : ℕ) → 48 ≤ c → c ≤ 57 → eqb (digit_value c) 0 ≡ eqb c 48
zero_digit c low high = grind (arith, nat_tests, low, high)

-- digits write 0 where each of them is 0
pub zero_is : (ds : List ℕ) → AllDigits 10 ds → eqb (digits_value 10 ds) 0 ≡ list_all is_zero ds
zero_is [] all = refl
zero_is (c ∷ cs) all =
    let code = digit_from_value c all.0 in
    zero_more (digit_value c) (10 ^ length cs) (digits_value 10 cs) (digits_value 10 (c ∷ cs)) (powers (length cs)) (after_is (0 * 10 + digit_value c) cs)
    ∙ ap₂ (λ x y. x && y) (zero_digit c code.0 code.1) (zero_is cs all.1)

-- a number times one power of ten, divided by another
raised : (n a b t : ℕ) → a ≡ b + t → (n * 10 ^ a / 10 ^ b ≡ n * 10 ^ t) × (n * 10 ^ a % 10 ^ b ≡ 0)
raised n a b t h =
    let e : n * 10 ^ a ≡ n * 10 ^ t * 10 ^ b =
    ap (λ x. n * 10 ^ x) h ∙ ap (λ x. n * x) (pow-add 10 b t ∙ mul_comm (10 ^ b) (10 ^ t)) ∙ sym (mul_assoc n (10 ^ t) (10 ^ b)) in
    (ap (λ x. x / 10 ^ b) e ∙ mul-div_cancel (n * 10 ^ t) (powers b), ap (λ x. x % 10 ^ b) e ∙ mul-mod_left (n * 10 ^ t) (10 ^ b))

zero_times : (r p : ℕ) → 0 < p → eqb (r * p) 0 ≡ eqb r 0
zero_times zero p h = ap (λ x. eqb x 0) (zero-mul p)
zero_times (suc r) p h =
    let large : 1 * p ≤ suc r * p = mul-le-mul_right p (omega arith) in
    rw (ne_eqb (suc r) 0 (λ q. omega (arith, q))) (ne_eqb (suc r * p) 0 (λ q. absurd (omega (arith, large, h, q))))

lowered : (n a b c q r : ℕ) → b ≡ a + c → n ≡ q * 10 ^ c + r → r < 10 ^ c → (n * 10 ^ a / 10 ^ b ≡ q) × (eqb (n * 10 ^ a % 10 ^ b) 0 ≡ eqb r 0)
lowered n a b c q r h e below =
    let power : 10 ^ c * 10 ^ a ≡ 10 ^ b = mul_comm (10 ^ c) (10 ^ a) ∙ sym (ap (λ x. 10 ^ x) h ∙ pow-add 10 a c) in
    let left : q * 10 ^ c * 10 ^ a ≡ q * 10 ^ b = mul_assoc q (10 ^ c) (10 ^ a) ∙ ap (λ x. q * x) power in
    let whole : n * 10 ^ a ≡ q * 10 ^ b + r * 10 ^ a = ap (λ x. x * 10 ^ a) e ∙ add-mul (q * 10 ^ c) r (10 ^ a) ∙ ap (λ x. x + r * 10 ^ a) left in
    let next : (r + 1) * 10 ^ a ≤ 10 ^ c * 10 ^ a = mul-le-mul_right (10 ^ a) (omega (arith, below)) in
    let parts : (r + 1) * 10 ^ a ≡ r * 10 ^ a + 1 * 10 ^ a = add-mul r 1 (10 ^ a) in
    let small : r * 10 ^ a < 10 ^ b = omega (arith, next, parts, power, powers a) in (
      ap (λ x. x / 10 ^ b) whole ∙ div-mul-add q (10 ^ b) (r * 10 ^ a) small,
      ap (λ x. eqb x 0) (ap (λ x. x % 10 ^ b) whole ∙ mod-mul-add q (10 ^ b) (r * 10 ^ a) small) ∙ zero_times r (10 ^ a) (powers a),
    )

-- The number of the digits times 10 ^ a and divided by 10 ^ b is that of the digits before a place, or of all and zeros,
-- and nothing is cut off where zeros stand behind the place
abbrev pub CutAt : List ℕ → ℕ → ℕ → ℕ → Type 0
CutAt ds a b k = (digits_value 10 ds * 10 ^ a / 10 ^ b ≡ digits_value 10 (take k ds) * 10 ^ (k - length ds)) × (eqb (digits_value 10 ds * 10 ^ a % 10 ^ b) 0 ≡ list_all is_zero (drop k ds))

cut_behind : (ds : List ℕ) (a b t k : ℕ) → a ≡ b + t → k ≡ length ds + t → CutAt ds a b k
cut_behind ds a b t k h e =
    let cut = raised (digits_value 10 ds) a b t h in
    let all : take k ds ≡ ds = take_all k ds (omega (arith, e)) in
    let none : drop k ds ≡ [] = drop_all k ds (omega (arith, e)) in
    let tens : k - length ds ≡ t = omega (arith, e) in
    (rw (all, tens) cut.0, rw none (ap (λ x. eqb x 0) cut.1))

cut_within : (ds : List ℕ) (a b c k : ℕ) → AllDigits 10 ds → b ≡ a + c → k + c ≡ length ds → CutAt ds a b k
cut_within ds a b c k all h e =
    let size : length (drop k ds) ≡ c = length-drop k ds ∙ omega (arith, e) in
    let split : digits_value 10 ds ≡ digits_value 10 (take k ds) * 10 ^ c + digits_value 10 (drop k ds) = rw size at (value_split k ds) in
    let small : digits_value 10 (drop k ds) < 10 ^ c = rw size at (digits_value-lt 10 (drop k ds) (digits_drop k ds all)) in
    let cut = lowered (digits_value 10 ds) a b c (digits_value 10 (take k ds)) (digits_value 10 (drop k ds)) h split small in
    let tens : k - length ds ≡ 0 = omega (arith, e) in
    (cut.0 ∙ rw tens (omega arith), cut.1 ∙ zero_is (drop k ds) (digits_drop k ds all))

cut_before : (ds : List ℕ) (a b c k : ℕ) → AllDigits 10 ds → b ≡ a + c → length ds ≤ c → k ≡ 0 → CutAt ds a b k
cut_before ds a b c k all h far e =
    let power : 10 ^ length ds ≤ 10 ^ c = pow-le-pow_right (omega arith) far in
    let small : digits_value 10 ds < 10 ^ c = omega (arith, power, digits_value-lt 10 ds all) in
    let cut = lowered (digits_value 10 ds) a b c 0 (digits_value 10 ds) h (sym (ap (λ x. x + digits_value 10 ds) (zero-mul (10 ^ c)) ∙ omega arith)) small in
    (cut.0 ∙ rw e (sym (zero-mul (10 ^ (0 - length ds)))), rw e (cut.1 ∙ zero_is ds all))

pub cut_at : (ds : List ℕ) (a b k : ℕ) → AllDigits 10 ds → k ≡ length ds + a - b → CutAt ds a b k
cut_at ds a b k all e = elim (cases_lt a b) [
  | inl down ↦ elim (cases_lt (b - a) (length ds)) [
    | inl within ↦ cut_within ds a b (b - a) k all (omega (arith, down)) (omega (arith, e, down, within))
    | inr before ↦ cut_before ds a b (b - a) k all (omega (arith, down)) before (omega (arith, e, down, before))
  ]
  | inr up ↦ cut_behind ds a b (a - b) k (omega (arith, up)) (omega (arith, e, up))
]

-- places far behind the digits tell the same
pub same_place : (ds : List ℕ) (j k : ℕ) → (j ≡ k) ⊎ ((length ds + 20 ≤ j) × (length ds + 20 ≤ k)) →
    (min (digits_value 10 (take j ds) * 10 ^ (j - length ds)) most ≡ min (digits_value 10 (take k ds) * 10 ^ (k - length ds)) most)
    × (list_all is_zero (drop j ds) ≡ list_all is_zero (drop k ds))
same_place ds j k h = elim h [
  | inl e ↦ (ap (λ x. min (digits_value 10 (take x ds) * 10 ^ (x - length ds)) most) e, ap (λ x. list_all is_zero (drop x ds)) e)
  | inr far ↦ (
    rw (take_all j ds (omega (arith, far.0)), take_all k ds (omega (arith, far.1)))
        (scaled_at_20 (digits_value 10 ds) (j - length ds) (k - length ds) (omega (arith, far.0)) (omega (arith, far.1))),
    rw (drop_all j ds (omega (arith, far.0)), drop_all k ds (omega (arith, far.1))) refl,
  )
]

-- the part of two lists before a place, and the part behind it
take_joined : (n : ℕ) (ws fs : List ℕ) → take n (ws ++ fs) ≡ take n ws ++ take (n - length ws) fs
take_joined n ws fs = elim (cases_lt n (length ws)) [
  | inl within ↦
      let none : n - length ws ≡ 0 = omega (arith, within) in
      take-append-le n ws fs (omega (arith, within)) ∙ sym (ap (λ x. take n ws ++ take x fs) none ∙ append-nil (take n ws))
  | inr behind ↦
      let sum : n ≡ length ws + (n - length ws) = omega (arith, behind) in
      ap (λ x. take x (ws ++ fs)) sum ∙ take-append-add ws fs (n - length ws) ∙ ap (λ xs. xs ++ take (n - length ws) fs) (sym (take_all n ws behind))
]

drop_joined : (n : ℕ) (ws fs : List ℕ) → drop n (ws ++ fs) ≡ drop n ws ++ drop (n - length ws) fs
drop_joined n ws fs = elim (cases_lt n (length ws)) [
  | inl within ↦
      let none : n - length ws ≡ 0 = omega (arith, within) in
      drop-append-le n ws fs (omega (arith, within)) ∙ sym (ap (λ x. drop n ws ++ drop x fs) none)
  | inr behind ↦
      let sum : n ≡ length ws + (n - length ws) = omega (arith, behind) in
      ap (λ x. drop x (ws ++ fs)) sum ∙ drop-append-add ws fs (n - length ws) ∙ ap (λ xs. xs ++ drop (n - length ws) fs) (sym (drop_all n ws behind))
]

pub zeros_joined : (n : ℕ) (ws fs : List ℕ) → list_all is_zero (drop n (ws ++ fs)) ≡ (list_all is_zero (drop n ws) && list_all is_zero (drop (n - length ws) fs))
zeros_joined n ws fs = ap (list_all is_zero) (drop_joined n ws fs) ∙ list_all-append is_zero (drop n ws) (drop (n - length ws) fs)

pub zeros_are : (n i : ℕ) (ws fs front back : List ℕ) (a b : Bool) → front ≡ drop n ws → i ≡ n - length ws → back ≡ drop i fs → a ≡ list_all is_zero front → a ≡ true →
    b ≡ list_all is_zero back → b ≡ list_all is_zero (drop n (ws ++ fs))
zeros_are n i ws fs front back a b e f g h k l =
    l ∙ ap (list_all is_zero) (g ∙ ap (λ x. drop x fs) f)
    ∙ sym (zeros_joined n ws fs ∙ ap (λ x. x && list_all is_zero (drop (n - length ws) fs)) (sym (ap (list_all is_zero) e) ∙ sym h ∙ k))

pub number_joined : (n i t : ℕ) (ws fs front back : List ℕ) (v w u : ℕ) → i ≡ n - length ws → t ≡ i - length fs → front ≡ take n ws → back ≡ take i fs →
    v ≡ min (digits_value_after 10 0 front) most → w ≡ min (digits_value_after 10 v back) most → u ≡ min (w * 10 ^ t) most →
    u ≡ min (digits_value 10 (take n (ws ++ fs)) * 10 ^ (n - length (ws ++ fs))) most
number_joined n i t ws fs front back v w u h k a b e f g =
    let both : take n (ws ++ fs) ≡ front ++ back = take_joined n ws fs ∙ sym (ap₂ (λ x y. x ++ y) a (b ∙ ap (λ x. take x fs) h)) in
    let whole : w ≡ min (digits_value 10 (take n (ws ++ fs))) most =
    f ∙ ap (λ x. min (digits_value_after 10 x back) most) e ∙ capped_after (digits_value_after 10 0 front) back
    ∙ ap (λ x. min x most) (sym (after-append 0 front back) ∙ ap (digits_value 10) (sym both)) in
    let tens : t ≡ n - length (ws ++ fs) = omega (arith, h, k, length-append ws fs) in
    g ∙ ap₂ (λ x y. min (x * 10 ^ y) most) whole tens ∙ capped_scaled (digits_value 10 (take n (ws ++ fs))) (n - length (ws ++ fs))

pub digits_take : (k : ℕ) (ds es : List ℕ) → es ≡ take k ds → AllDigits 10 ds → AllDigits 10 es
digits_take k ds es e all = let P : List ℕ → Type 0 = λ x. AllDigits 10 x in subst P (sym e) (digits_front k ds all)
