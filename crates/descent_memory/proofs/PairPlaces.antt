-- The places of pairs of vehicles: each pair has its own, and there is one for each.
use Rattle.std.proofs.Common.{◌≡◌, ◌⊎◌, inl, inr, ℕ, zero, suc, ◌+◌, ◌-◌, ◌*◌, ◌<◌, ◌≤◌, refl, sym, ap, arith}
use Rattle.std.proofs.lemmas.Bool.{cases_lt}
use Rattle.descent_memory.specs.Pairs.{pair_place, pairs_before}

-- more vehicles make no fewer pairs
pub before-grows : (count m n : ℕ) → m ≤ n → pairs_before count m ≤ pairs_before count n
before-grows count m zero l = let e : m ≡ 0 = omega (arith, l) in rw e (omega arith)
before-grows count m (suc n) l = by (cases_lt n m) (λ k. before-grows count m n k)
  where
    by : (n < m) ⊎ (m ≤ n) → (m ≤ n → pairs_before count m ≤ pairs_before count n) → pairs_before count m ≤ pairs_before count (suc n)
    by (inl k) fewer = let e : m ≡ suc n = omega (arith, l, k) in rw e (omega arith)
    by (inr k) fewer = let h = fewer k in omega (arith, h)

-- one more vehicle, by its number
pub before-next : (count n : ℕ) → pairs_before count (n + 1) ≡ pairs_before count n + (count - (n + 1))
before-next count n = let e : n + 1 ≡ suc n = omega arith in rw e refl

-- the number of pairs fits 64 bits where the number of vehicles fits 32
pub before-few : (count n : ℕ) → count ≤ 4294967295 → pairs_before count n ≤ 4294967295 * n
before-few count zero l = omega arith
before-few count (suc n) l = let h = before-few count n l in omega (arith, h, l)

-- a pair lies before those of the next vehicle
place-before : (count i j : ℕ) → i < j → j < count → pair_place count i j < pairs_before count (suc i)
place-before count i j a b = omega (arith, a, b)

-- each place is in range
pub place-in_range : (count i j : ℕ) → i < j → j < count → pair_place count i j < pairs_before count count
place-in_range count i j a b =
    let h = place-before count i j a b in
    let k = before-grows count (suc i) count (omega (arith, a, b)) in
    omega (arith, h, k)

-- another pair has another place
pub places-differ : (count i j k l : ℕ) → i < j → j < count → k < l → l < count → pair_place count i j ≡ pair_place count k l → (i ≡ k) × (j ≡ l)
places-differ count i j k l a b c d e = by (cases_lt i k) (cases_lt k i)
  where
    earlier : (m n o q : ℕ) → m < n → n < count → o < q → m < o → pair_place count m n ≡ pair_place count o q → ⊥
    earlier m n o q x y z less same =
        let h = place-before count m n x y in
        let g = before-grows count (suc m) o (omega (arith, less)) in
        omega (arith, h, g, same)

    back : pair_place count k l ≡ pair_place count i j
    back = sym e

    row : (m n : ℕ) → m ≡ n → pairs_before count m ≡ pairs_before count n
    row m n x = ap (pairs_before count) x

    by : (i < k) ⊎ (k ≤ i) → (k < i) ⊎ (i ≤ k) → (i ≡ k) × (j ≡ l)
    by (inl x) y = absurd (earlier i j k l a b c x e)
    by (inr x) (inl y) = absurd (earlier k l i j c d a y back)
    by (inr x) (inr y) =
        let s : i ≡ k = omega (arith, x, y) in
        let r = row i k s in
        (s, omega (arith, a, c, e, r, s))
