-- The order of directions is a strict weak order.
use Rattle.std.proofs.Common.{◌≡◌, ◌∙◌, sym, refl, ap, ap₂, ℕ, zero, suc, ◌+◌, ◌*◌, ◌<◌, ◌≤◌, ◌⊎◌, inl, inr, ⊎_elim, ◌≢◌, ℤ, pos, negsuc, neg_ℤ, ◌-ℤ◌, ◌*ℤ◌, Bool, true, false, cond, ◌&&◌, ◌||◌, ◌==◌, arith, int_lt, nat_lt, mul-le-mul_right}
use Rattle.std.specs.Cmp.{IsStrictWeakOrder}
use Rattle.std.specs.Ordering.{int_eq}
use Rattle.std.proofs.Math.IntN.{pos-*ℤ-pos, negsuc-*ℤ-pos, pos-*ℤ-negsuc, negsuc-*ℤ-negsuc, zero-*ℤ, *ℤ-zero, *ℤ_comm}
use Rattle.std.proofs.lemmas.Bool.{cases_eq, cases_lt, ltb-false, le-ltb, lt-ltb}
use Rattle.std.proofs.lemmas.Bool.Decides.{nat_tests}
use Rattle.std.proofs.lemmas.Int.{ints}
use Rattle.genetic_model.specs.declared.vector.Vector.{Vector}
use Rattle.genetic_model.specs.RouteOrder.{half_plane, cross_product, turns_before}

-- how far above 0, and how far below
abbrev up_of : ℤ → ℕ
up_of (pos n) = n
up_of (negsuc n) = 0

abbrev down_of : ℤ → ℕ
down_of (pos n) = 0
down_of (negsuc n) = suc n

none_of : (q : ℕ) → 0 * q ≡ 0
none_of q = grind arith

nothing : (q : ℕ) → q * 0 ≡ 0
nothing q = grind arith

times-pos : (x : ℤ) (q : ℕ) → x *ℤ pos q ≡ pos (up_of x * q) -ℤ pos (down_of x * q)
times-pos (pos n) q = let e : 0 * q ≡ 0 = none_of q in let f = pos-*ℤ-pos n q in omega (arith, ints)
times-pos (negsuc n) q = let e : 0 * q ≡ 0 = none_of q in let f = negsuc-*ℤ-pos n q in omega (arith, ints)

-- the test of a difference, in natural numbers
positive : (x y : ℕ) (z : ℤ) → z ≡ pos x -ℤ pos y → int_lt (pos 0) z ≡ nat_lt y x
positive x y (pos n) e = let k : n + y ≡ x = omega (arith, ints) in grind (arith, nat_tests)
positive x y (negsuc n) e = let k : x + suc n ≡ y = omega (arith, ints) in sym (le-ltb y x (omega arith))

times-neg : (x : ℤ) (q : ℕ) → x *ℤ neg_ℤ (pos q) ≡ pos (down_of x * q) -ℤ pos (up_of x * q)
times-neg x zero = let f = *ℤ-zero x in omega (arith, ints)
times-neg (pos n) (suc q) = let e : 0 * suc q ≡ 0 = none_of (suc q) in let f = pos-*ℤ-negsuc n q in omega (arith, ints)
times-neg (negsuc n) (suc q) = let e : 0 * suc q ≡ 0 = none_of (suc q) in let f = negsuc-*ℤ-negsuc n q in omega (arith, ints)

below_differences : (a b c d : ℕ) (m n : ℤ) → m ≡ pos a -ℤ pos b → n ≡ pos c -ℤ pos d → int_lt (pos 0) (m -ℤ n) ≡ nat_lt (b + c) (a + d)
below_differences a b c d m n e f = positive (a + d) (b + c) (m -ℤ n) (omega (arith, ints))

opposite : (m n : ℤ) → int_lt (pos 0) (m -ℤ n) ≡ true → int_lt (pos 0) (n -ℤ m) ≡ false
opposite m n h = grind (arith, ints)

cancelled : (a b q : ℕ) → 1 ≤ q → a * q ≤ b * q → a ≤ b
cancelled a b q h k = ⊎_elim (λ l. absurd (by l)) (λ l. l) (cases_lt b a)
  where
    by : b < a → ⊥
    by l = let more : (b + 1) * q ≤ a * q = mul-le-mul_right q (omega arith) in let e : (b + 1) * q ≡ b * q + q = grind arith in omega arith

chain_products : (a b c d e f p q r : ℕ) → a * q + d * p ≤ b * q + c * p → c * r + f * q ≤ d * r + e * q → (a * r + f * p) * q ≤ (b * r + e * p) * q
chain_products a b c d e f p q r h k =
    let first : (a * q + d * p) * r ≤ (b * q + c * p) * r = mul-le-mul_right r h in
    let second : (c * r + f * q) * p ≤ (d * r + e * q) * p = mul-le-mul_right p k in
    grind arith

-- three directions of one half plane, each a height and two numbers whose difference is the way along the axis
chain_numbers : (a b c d e f p q r : ℕ) → (1 ≤ q) ⊎ (d < c) → (1 ≤ r) ⊎ (f < e) → a * q + d * p ≤ b * q + c * p → c * r + f * q ≤ d * r + e * q → a * r + f * p ≤ b * r + e * p
chain_numbers a b c d e f p q r v w h k = ⊎_elim (λ l. cancelled (a * r + f * p) (b * r + e * p) q l (chain_products a b c d e f p q r h k)) (λ l. flat (omega arith) v w) (cases_lt 0 q)
  where
    flat : q ≡ 0 → (1 ≤ q) ⊎ (d < c) → (1 ≤ r) ⊎ (f < e) → a * r + f * p ≤ b * r + e * p
    flat z (inl l) w = absurd (omega arith)
    flat z (inr l) w = by w
      where
        more : (d + 1) * r ≤ c * r
        more = mul-le-mul_right r (omega arith)

        flat_next : r ≡ 0
        flat_next =
            let e1 : (d + 1) * r ≡ d * r + r = grind arith in
            let e2 : f * q ≡ 0 = ap (λ n. f * n) z ∙ nothing f in
            let e3 : e * q ≡ 0 = ap (λ n. e * n) z ∙ nothing e in
            let m = more in omega arith

        by : (1 ≤ r) ⊎ (f < e) → a * r + f * p ≤ b * r + e * p
        by (inl l) = let n = flat_next in absurd (omega arith)
        by (inr l) =
            let e1 : a * r ≡ 0 = ap (λ n. a * n) flat_next ∙ nothing a in
            let e2 : b * r ≡ 0 = ap (λ n. b * n) flat_next ∙ nothing b in
            let less : f * p ≤ e * p = mul-le-mul_right p (omega arith) in omega arith

-- a direction of the upper half plane
record IsUpper (x y : ℤ) : Type 0 where
  height : ℕ
  here : y ≡ pos height
  some : (1 ≤ height) ⊎ (down_of x < up_of x)

-- one of the lower
record IsLower (x y : ℤ) : Type 0 where
  height : ℕ
  here : y ≡ neg_ℤ (pos height)
  some : (1 ≤ height) ⊎ (up_of x < down_of x)

record IsNowhere (x y : ℤ) : Type 0 where
  x_here : x ≡ pos 0
  y_here : y ≡ pos 0

abbrev plane_of : ℤ → ℤ → ℕ
plane_of x y = half_plane (record { x = x; y = y })

eq-suc : (n : ℕ) → int_eq (pos (suc n)) (pos 0) ≡ false
eq-suc n = grind (arith, ints)

lt-suc : (n : ℕ) → int_lt (pos 0) (pos (suc n)) ≡ true
lt-suc n = lt-ltb 0 (suc n) (omega arith)

plane-values : (x y : ℤ) (a b c d : Bool) → int_eq x (pos 0) ≡ a → int_eq y (pos 0) ≡ b → int_lt (pos 0) y ≡ c → int_lt (pos 0) x ≡ d →
    plane_of x y ≡ cond (a && b) 0 (cond (c || (b && d)) 1 2)
plane-values x y a b c d ea eb ec ed = rw (ea, eb, ec, ed) refl

never_both : (a : Bool) (m n : ℕ) → cond (a && false) m n ≡ n
never_both true m n = refl
never_both false m n = refl

above : (x : ℤ) (n : ℕ) → plane_of x (pos (suc n)) ≡ 1
above x n = plane-values x (pos (suc n)) (int_eq x (pos 0)) false true (int_lt (pos 0) x) refl (eq-suc n) (lt-suc n) refl ∙ never_both (int_eq x (pos 0)) 0 1

under : (x : ℤ) (n : ℕ) → plane_of x (negsuc n) ≡ 2
under x n = plane-values x (negsuc n) (int_eq x (pos 0)) false false (int_lt (pos 0) x) refl refl refl refl ∙ never_both (int_eq x (pos 0)) 0 2

ahead : (m : ℕ) → plane_of (pos (suc m)) (pos 0) ≡ 1
ahead m = plane-values (pos (suc m)) (pos 0) false true false true (eq-suc m) refl refl (lt-suc m)

behind : (m : ℕ) → plane_of (negsuc m) (pos 0) ≡ 2
behind m = refl

nowhere : (x y : ℤ) → plane_of x y ≡ 0 → IsNowhere x y
nowhere (pos zero) (pos zero) h = record { x_here = refl; y_here = refl }
nowhere (pos (suc m)) (pos zero) h = let e = ahead m in absurd (omega arith)
nowhere (negsuc m) (pos zero) h = let e = behind m in absurd (omega arith)
nowhere x (pos (suc n)) h = let e = above x n in absurd (omega arith)
nowhere x (negsuc n) h = let e = under x n in absurd (omega arith)

upper : (x y : ℤ) → plane_of x y ≡ 1 → IsUpper x y
upper (pos zero) (pos zero) h = absurd (omega arith)
upper (pos (suc m)) (pos zero) h = record { height = 0; here = refl; some = inr (omega arith) }
upper (negsuc m) (pos zero) h = let e = behind m in absurd (omega arith)
upper x (pos (suc n)) h = record { height = suc n; here = refl; some = inl (omega arith) }
upper x (negsuc n) h = let e = under x n in absurd (omega arith)

lower : (x y : ℤ) → plane_of x y ≡ 2 → IsLower x y
lower (pos zero) (pos zero) h = absurd (omega arith)
lower (pos (suc m)) (pos zero) h = let e = ahead m in absurd (omega arith)
lower (negsuc m) (pos zero) h = record { height = 0; here = refl; some = inr (omega arith) }
lower x (pos (suc n)) h = let e = above x n in absurd (omega arith)
lower x (negsuc n) h = record { height = suc n; here = refl; some = inl (omega arith) }

classes : (x y : ℤ) → (plane_of x y ≡ 0) ⊎ ((plane_of x y ≡ 1) ⊎ (plane_of x y ≡ 2))
classes (pos zero) (pos zero) = inl refl
classes (pos (suc m)) (pos zero) = inr (inl (ahead m))
classes (negsuc m) (pos zero) = inr (inr (behind m))
classes x (pos (suc n)) = inr (inl (above x n))
classes x (negsuc n) = inr (inr (under x n))

crosses-upper : (x y z w : ℤ) (p q : ℕ) → y ≡ pos p → w ≡ pos q →
    int_lt (pos 0) ((x *ℤ w) -ℤ (y *ℤ z)) ≡ nat_lt (down_of x * q + up_of z * p) (up_of x * q + down_of z * p)
crosses-upper x y z w p q e f =
    below_differences (up_of x * q) (down_of x * q) (up_of z * p) (down_of z * p) (x *ℤ w) (y *ℤ z)
    (ap (λ (t : ℤ). x *ℤ t) f ∙ times-pos x q) (*ℤ_comm y z ∙ ap (λ (t : ℤ). z *ℤ t) e ∙ times-pos z p)

crosses-lower : (x y z w : ℤ) (p q : ℕ) → y ≡ neg_ℤ (pos p) → w ≡ neg_ℤ (pos q) →
    int_lt (pos 0) ((x *ℤ w) -ℤ (y *ℤ z)) ≡ nat_lt (up_of x * q + down_of z * p) (down_of x * q + up_of z * p)
crosses-lower x y z w p q e f =
    below_differences (down_of x * q) (up_of x * q) (down_of z * p) (up_of z * p) (x *ℤ w) (y *ℤ z)
    (ap (λ (t : ℤ). x *ℤ t) f ∙ times-neg x q) (*ℤ_comm y z ∙ ap (λ (t : ℤ). z *ℤ t) e ∙ times-neg z p)

abbrev is_left : Vector → Vector → Bool
is_left u v = int_lt (pos 0) (cross_product u v)

chain-upper : (u v w : Vector) → IsUpper u.x u.y → IsUpper v.x v.y → IsUpper w.x w.y → is_left u v ≡ false → is_left v w ≡ false → is_left u w ≡ false
chain-upper u v w a b c g h =
    crosses-upper u.x u.y w.x w.y a.height c.height a.here c.here
    ∙ le-ltb _ _ (chain_numbers (up_of u.x) (down_of u.x) (up_of v.x) (down_of v.x) (up_of w.x) (down_of w.x) a.height b.height c.height b.some c.some
    (ltb-false _ _ (sym (crosses-upper u.x u.y v.x v.y a.height b.height a.here b.here) ∙ g))
    (ltb-false _ _ (sym (crosses-upper v.x v.y w.x w.y b.height c.height b.here c.here) ∙ h)))

chain-lower : (u v w : Vector) → IsLower u.x u.y → IsLower v.x v.y → IsLower w.x w.y → is_left u v ≡ false → is_left v w ≡ false → is_left u w ≡ false
chain-lower u v w a b c g h =
    crosses-lower u.x u.y w.x w.y a.height c.height a.here c.here
    ∙ le-ltb _ _ (chain_numbers (down_of u.x) (up_of u.x) (down_of v.x) (up_of v.x) (down_of w.x) (up_of w.x) a.height b.height c.height b.some c.some
    (ltb-false _ _ (sym (crosses-lower u.x u.y v.x v.y a.height b.height a.here b.here) ∙ g))
    (ltb-false _ _ (sym (crosses-lower v.x v.y w.x w.y b.height c.height b.here c.here) ∙ h)))

nothing_left : (u w : Vector) → IsNowhere u.x u.y → is_left u w ≡ false
nothing_left u w h =
    let first : u.x *ℤ w.y ≡ pos 0 = ap (λ (t : ℤ). t *ℤ w.y) h.x_here ∙ zero-*ℤ w.y in
    let second : u.y *ℤ w.x ≡ pos 0 = ap (λ (t : ℤ). t *ℤ w.x) h.y_here ∙ zero-*ℤ w.x in
    ap₂ (λ (s t : ℤ). int_lt (pos 0) (s -ℤ t)) first second

-- in one class
chain-class : (u v w : Vector) → half_plane u ≡ half_plane v → half_plane v ≡ half_plane w → is_left u v ≡ false → is_left v w ≡ false → is_left u w ≡ false
chain-class u v w e f g h = ⊎_elim (λ n. nothing_left u w (nowhere u.x u.y n))
    (λ m. ⊎_elim
    (λ n. chain-upper u v w (upper u.x u.y n) (upper v.x v.y (sym e ∙ n)) (upper w.x w.y (sym f ∙ sym e ∙ n)) g h)
    (λ n. chain-lower u v w (lower u.x u.y n) (lower v.x v.y (sym e ∙ n)) (lower w.x w.y (sym f ∙ sym e ∙ n)) g h) m)
    (classes u.x u.y)

-- the test of two classes, and of two directions of one class
module _ (k l : ℕ) (a : Bool) where
  not_before-class : (nat_lt k l || ((k == l) && a)) ≡ false → l ≤ k
  not_before-class h = grind (arith, nat_tests)

  not_before-same : (nat_lt k l || ((k == l) && a)) ≡ false → k ≡ l → a ≡ false
  not_before-same h e = grind (arith, nat_tests)

  not_before : l ≤ k → (k ≡ l → a ≡ false) → (nat_lt k l || ((k == l) && a)) ≡ false
  not_before h f = by (cases_eq k l)
    where
      by : (k ≡ l) ⊎ (k ≢ l) → (nat_lt k l || ((k == l) && a)) ≡ false
      by (inl e) = let b : a ≡ false = f e in grind (arith, nat_tests)
      by (inr e) = grind (arith, nat_tests)

one_way_by : (k l : ℕ) (a b : Bool) → (a ≡ true → b ≡ false) → (nat_lt k l || ((k == l) && a)) ≡ true → (nat_lt l k || ((l == k) && b)) ≡ false
one_way_by k l true b f h = let e : b ≡ false = f refl in grind (arith, nat_tests)
one_way_by k l false b f h = grind (arith, nat_tests)

turned_back : (u v : Vector) → is_left u v ≡ true → is_left v u ≡ false
turned_back u v h = ap₂ (λ (s t : ℤ). int_lt (pos 0) (s -ℤ t)) (*ℤ_comm v.x u.y) (*ℤ_comm v.y u.x) ∙ opposite (u.x *ℤ v.y) (u.y *ℤ v.x) h

pub turns_before-order : IsStrictWeakOrder turns_before
turns_before-order = record {
  one_way = λ u v h. one_way_by (half_plane u) (half_plane v) (is_left u v) (is_left v u) (turned_back u v) h;
  chain = λ u v w g h.
      let first : half_plane v ≤ half_plane u = not_before-class (half_plane u) (half_plane v) (is_left u v) g in
      let second : half_plane w ≤ half_plane v = not_before-class (half_plane v) (half_plane w) (is_left v w) h in
      not_before (half_plane u) (half_plane w) (is_left u w) (omega arith)
      (λ e. let p : half_plane u ≡ half_plane v = omega arith in let q : half_plane v ≡ half_plane w = omega arith in
      chain-class u v w p q (not_before-same (half_plane u) (half_plane v) (is_left u v) g p) (not_before-same (half_plane v) (half_plane w) (is_left v w) h q));
}
