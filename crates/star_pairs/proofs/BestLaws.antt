-- The best of some pairs, and one pair more.
use Rattle.std.proofs.Common.{◌≡◌, ◌⊎◌, inl, inr, ℕ, ◌+◌, ◌<◌, length, sym, ◌∙◌, ap, ap₂, subst, arith, ℤ, ◌+ℤ◌}
use Rattle.std.proofs.lemmas.Int.{ints}
use Rattle.route_cache.specs.Routes.{RouteState}
use Rattle.star_places.specs.Growths.{growth_without, place_of}
use Rattle.star_places.specs.Places.{IsLeastPlace}
use Rattle.star_pairs.specs.declared.pair.Pair.{Pair}
use Rattle.star_pairs.specs.inside.Pairs.{IsBestSoFar, IsPairAt, Leads, turn_change}

leads-trans : (x y z : Pair) → Leads x y → Leads y z → Leads x z
leads-trans x y z g h = record {
  level = omega (arith, ints, g.level, h.level);
  by_u = λ l. let a = g.by_u (omega (arith, ints, l, h.level)) in let b = h.by_u (omega (arith, ints, l, g.level)) in omega (arith, a, b);
  by_v = λ l e.
      let a = g.by_u (omega (arith, ints, l, h.level)) in
      let b = h.by_u (omega (arith, ints, l, g.level)) in
      let i = g.by_v (omega (arith, ints, l, h.level)) (omega (arith, a, b, e)) in
      let j = h.by_v (omega (arith, ints, l, g.level)) (omega (arith, a, b, e)) in
      omega (arith, i, j);
}

leads-same : (x y : Pair) → x.change ≡ y.change → x.u ≡ y.u → x.v ≡ y.v → Leads x y
leads-same x y e k l = record { level = omega (arith, ints, e); by_u = λ _. omega (arith, k); by_v = λ _ _. omega (arith, l) }

-- there is one best place
same-place : (f : ℕ → ℤ) (n x y : ℕ) → IsLeastPlace f n x → IsLeastPlace f n y → x ≡ y
same-place f n x y g h = let a = g.earliest y h.inside (h.least x g.inside) in let b = h.earliest x g.inside (g.least y h.inside) in omega (arith, a, b)

module _ (a b : RouteState) where
  -- and one pair at two positions
  leads-itself : (i j : ℕ) (x y : Pair) → IsPairAt a b i j x → IsPairAt a b i j y → Leads x y
  leads-itself i j x y g h = leads-same x y (g.change_is ∙ (ap₂ (λ (m n : ℤ). m +ℤ n) first second ∙ sym h.change_is)) (g.u_is ∙ sym h.u_is) (g.v_is ∙ sym h.v_is)
    where
      first : x.first.change ≡ y.first.change
      first = g.first_turn.change_is ∙ (ap (turn_change a i (place_of b (j + 1))) (same-place (growth_without a i (place_of b (j + 1))) (length a.visits) x.first.place y.first.place g.first_turn.best h.first_turn.best) ∙ sym h.first_turn.change_is)

      second : x.second.change ≡ y.second.change
      second = g.second_turn.change_is ∙ (ap (turn_change b j (place_of a (i + 1))) (same-place (growth_without b j (place_of a (i + 1))) (length b.visits) x.second.place y.second.place g.second_turn.best h.second_turn.best) ∙ sym h.second_turn.change_is)

  -- a pair by the positions that it tells
  at-itself : (i j : ℕ) (pair : Pair) → IsPairAt a b i j pair → IsPairAt a b pair.first.goes pair.second.goes pair
  at-itself i j pair is =
      subst (λ (k : ℕ). IsPairAt a b k pair.second.goes pair) (sym is.first_turn.goes_is) (subst (λ (k : ℕ). IsPairAt a b i k pair) (sym is.second_turn.goes_is) is)

  pub best-first : (pair : Pair) → 0 < length a.visits → 0 < length b.visits → IsPairAt a b 0 0 pair → IsBestSoFar a b 0 0 pair
  best-first pair some other_some is = record {
    pair_is = at-itself 0 0 pair is;
    u_there = omega (arith, some, is.first_turn.goes_is);
    v_there = omega (arith, other_some, is.second_turn.goes_is);
    before = λ x y h k other z. absurd (omega (arith, k));
    beside = λ x h other z. absurd (omega (arith, h));
  }

  -- it stays, or the next one takes its place
  pub best-stays : (i j : ℕ) (best pair : Pair) → IsBestSoFar a b j i best → IsPairAt a b i j pair → Leads best pair → IsBestSoFar a b j (i + 1) best
  best-stays i j best pair so_far is leads = record {
    pair_is = so_far.pair_is;
    u_there = so_far.u_there;
    v_there = so_far.v_there;
    before = so_far.before;
    beside = λ x h other z. by x other z (last x i h);
  }
    where
      last : (x i : ℕ) → x < i + 1 → (x < i) ⊎ (x ≡ i)
      last x i h = grind arith

      by : (x : ℕ) (other : Pair) → IsPairAt a b x j other → (x < i) ⊎ (x ≡ i) → Leads best other
      by x other z (inl l) = so_far.beside x l other z
      by x other z (inr e) = leads-trans best pair other leads (leads-itself i j pair other is (subst (λ (k : ℕ). IsPairAt a b k j other) e z))

  pub best-next : (i j : ℕ) (best pair : Pair) → i < length a.visits → j < length b.visits → IsBestSoFar a b j i best → IsPairAt a b i j pair → Leads pair best → IsBestSoFar a b j (i + 1) pair
  best-next i j best pair in_a in_b so_far is leads = record {
    pair_is = at-itself i j pair is;
    u_there = omega (arith, in_a, is.first_turn.goes_is);
    v_there = omega (arith, in_b, is.second_turn.goes_is);
    before = λ x y h k other z. leads-trans pair best other leads (so_far.before x y h k other z);
    beside = λ x h other z. by x other z (last x i h);
  }
    where
      last : (x i : ℕ) → x < i + 1 → (x < i) ⊎ (x ≡ i)
      last x i h = grind arith

      by : (x : ℕ) (other : Pair) → IsPairAt a b x j other → (x < i) ⊎ (x ≡ i) → Leads pair other
      by x other z (inl l) = leads-trans pair best other leads (so_far.beside x l other z)
      by x other z (inr e) = leads-itself i j pair other is (subst (λ (k : ℕ). IsPairAt a b k j other) e z)

  -- all of one client are done
  pub best-row : (j : ℕ) (best : Pair) → IsBestSoFar a b j (length a.visits) best → IsBestSoFar a b (j + 1) 0 best
  best-row j best so_far = record {
    pair_is = so_far.pair_is;
    u_there = so_far.u_there;
    v_there = so_far.v_there;
    before = λ x y h k other z. by x y other h z (last y j k);
    beside = λ x h other z. absurd (omega (arith, h));
  }
    where
      last : (x i : ℕ) → x < i + 1 → (x < i) ⊎ (x ≡ i)
      last x i h = grind arith

      by : (x y : ℕ) (other : Pair) → x < length a.visits → IsPairAt a b x y other → (y < j) ⊎ (y ≡ j) → Leads best other
      by x y other h z (inl l) = so_far.before x y h l other z
      by x y other h z (inr e) = so_far.beside x h other (subst (λ (k : ℕ). IsPairAt a b x k other) e z)
