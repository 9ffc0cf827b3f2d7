-- The best pair is that of the swap of the shortest tours.
use Rattle.std.proofs.Common.{◌≡◌, ℕ, zero, suc, ◌+◌, ◌<◌, ◌≤◌, List, [], ◌∷◌, ◌++◌, length, refl, sym, ◌∙◌, ap, ap₂, subst, arith, Option, Some, None, ℤ, pos, ◌+ℤ◌, ◌-ℤ◌, ◌≤ℤ◌}
use Rattle.std.specs.Prelude.{IsTrue, insert, slice_index}
use Rattle.std.specs.Option.{MatchOption}
use Rattle.list_words.specs.Lists.{is_in}
use Rattle.problem_data.specs.declared.problem.Problem.{Problem}
use Rattle.problem_data.specs.declared.problem.VehicleType.{VehicleType}
use Rattle.routing_model.specs.Listed.{type_of_vehicle}
use Rattle.search_model.specs.Edits.{visits_of}
use Rattle.search_model.specs.RouteMoves.{Swap, best_inserted, best_swap, omitted, star_swap, tour}
use Rattle.gain_model.specs.Growths.{IsLeastChange, NoPair, StandAtMostOnce, pair_change, swap_change}
use Rattle.gain_model.proofs.LeastChanges.{least_change}
use Rattle.route_cache.specs.Routes.{RouteState}
use Rattle.star_pairs.specs.declared.pair.Pair.{Pair}
use Rattle.star_places.specs.Growths.{growth_without, place_of}
use Rattle.star_pairs.specs.BestPairs.{IsBestPair, MakesBestSwap}
use Rattle.star_pairs.specs.inside.Pairs.{IsBestSoFar, IsPairAt, Leads, turn_change}
use Rattle.star_places.specs.Places.{IsLeastPlace}
use Rattle.star_pairs.proofs.SplitLists.{IsSplit, StandsAtSome, along-places, in-there, index-split, omitted-split, put-back, split-at, stands-somewhere}
use Rattle.star_pairs.proofs.TurnChanges.{goes-there, some-place, turn-is}

-- a route of clients
abbrev pub clients_route : Problem → ℕ → List ℕ → RouteState
clients_route p vehicle us = record { problem = p; vehicle = vehicle; visits = visits_of us }

-- one side of a pair: what it makes, and how much farther that is
pub record IsMadeSide (p : Problem) (vehicle : ℕ) (us : List ℕ) (i x place : ℕ) : Type 0 where
  pub goes : best_inserted p (type_of_vehicle p vehicle) x (omitted (slice_index us i) us) ≡ insert (omitted (slice_index us i) us) place x
  pub farther : pos (tour p (type_of_vehicle p vehicle) (insert (omitted (slice_index us i) us) place x)) -ℤ pos (tour p (type_of_vehicle p vehicle) us) ≡ turn_change (clients_route p vehicle us) i x place

pub size-visits : (us : List ℕ) → length (visits_of us) ≡ length us
size-visits [] = refl
size-visits (x ∷ us) = ap (λ (n : ℕ). suc n) (size-visits us)

module _ (p : Problem) (vehicle : ℕ) (us : List ℕ) (once : StandAtMostOnce us) (i : ℕ) (there : i < length us) where
  abbrev Best : ℕ → ℕ → Type 0
  Best x place = IsLeastPlace (growth_without (clients_route p vehicle us) i x) (length us) place

  pub along-here : place_of (clients_route p vehicle us) (i + 1) ≡ slice_index us i
  along-here = along-places (type_of_vehicle p vehicle) us (i + 1) (omega (arith, there)) ∙ at
    where
      at : slice_index ((type_of_vehicle p vehicle).start ∷ (us ++ (type_of_vehicle p vehicle).end ∷ [])) (i + 1) ≡ slice_index us i
      at = by us i there
        where
          next : (i : ℕ) (x : ℕ) (xs : List ℕ) → slice_index (x ∷ xs) (i + 1) ≡ slice_index xs i
          next i x xs = let e : i + 1 ≡ suc i = omega arith in ap (slice_index (x ∷ xs)) e

          inner : (us rest : List ℕ) (i : ℕ) → i < length us → slice_index (us ++ rest) i ≡ slice_index us i
          inner [] rest i h = absurd (omega (arith, h))
          inner (x ∷ us) rest zero h = refl
          inner (x ∷ us) rest (suc i) h = inner us rest i (omega (arith, h))

          by : (us : List ℕ) (i : ℕ) → i < length us → slice_index ((type_of_vehicle p vehicle).start ∷ (us ++ (type_of_vehicle p vehicle).end ∷ [])) (i + 1) ≡ slice_index us i
          by us i h = next i (type_of_vehicle p vehicle).start (us ++ (type_of_vehicle p vehicle).end ∷ []) ∙ inner us ((type_of_vehicle p vehicle).end ∷ []) i h

  -- stated at a split
  abbrev AtSplit : List ℕ → ℕ → Type 0
  AtSplit vs k = StandAtMostOnce vs → (x place : ℕ) → IsLeastPlace (growth_without (clients_route p vehicle vs) k x) (length vs) place →
      (best_inserted p (type_of_vehicle p vehicle) x (omitted (slice_index vs k) vs) ≡ insert (omitted (slice_index vs k) vs) place x)
      × (pos (tour p (type_of_vehicle p vehicle) (insert (omitted (slice_index vs k) vs) place x)) -ℤ pos (tour p (type_of_vehicle p vehicle) vs) ≡ turn_change (clients_route p vehicle vs) k x place)

  split-side : (s : IsSplit us i) → AtSplit us i
  split-side s = subst (AtSplit us) s.place (subst (λ (vs : List ℕ). AtSplit vs (length s.before)) (sym s.whole) at)
    where
      at : AtSplit (s.before ++ s.u ∷ s.behind) (length s.before)
      at once' x place is =
          let u : slice_index (s.before ++ s.u ∷ s.behind) (length s.before) ≡ s.u = index-split s.before s.u s.behind in
          let left : omitted (slice_index (s.before ++ s.u ∷ s.behind) (length s.before)) (s.before ++ s.u ∷ s.behind) ≡ s.before ++ s.behind =
          ap (λ (v : ℕ). omitted v (s.before ++ s.u ∷ s.behind)) u ∙ omitted-split s.before s.u s.behind (once' s.u) in
          let goes = goes-there p vehicle s.before s.u s.behind x place is in (
            ap (best_inserted p (type_of_vehicle p vehicle) x) left ∙ (goes ∙ ap (λ (vs : List ℕ). insert vs place x) (sym left)),
            ap (λ (vs : List ℕ). pos (tour p (type_of_vehicle p vehicle) (insert vs place x)) -ℤ pos (tour p (type_of_vehicle p vehicle) (s.before ++ s.u ∷ s.behind))) left
                ∙ turn-is p vehicle s.before s.u s.behind x place (let inside = is.inside in let long = size s.before in omega (arith, inside, long)),
          )
        where
          size : (xs : List ℕ) → length (xs ++ s.u ∷ s.behind) ≡ length (xs ++ s.behind) + 1
          size [] = omega arith
          size (y ∷ xs) = let rest = size xs in omega (arith, rest)

  pub made-side : (x place : ℕ) → Best x place → IsMadeSide p vehicle us i x place
  made-side x place is =
      let both = split-side (split-at us i there) once x place is in
      record { goes = both.0; farther = both.1 }

  pub has-place : (x : ℕ) → (place : ℕ) × Best x place
  has-place x = by (split-at us i there)
    where
      by : IsSplit us i → (place : ℕ) × Best x place
      by s =
          subst (λ (k : ℕ). (place : ℕ) × IsLeastPlace (growth_without (clients_route p vehicle us) k x) (length us) place) s.place
          (subst (λ (vs : List ℕ). (place : ℕ) × IsLeastPlace (growth_without (clients_route p vehicle vs) (length s.before) x) (length vs) place) (sym s.whole)
          (some-place p vehicle s.before s.u s.behind x))

-- a list is what is left without a client, with the client put back
pub put-back-at : (us : List ℕ) → StandAtMostOnce us → (i : ℕ) → i < length us → insert (omitted (slice_index us i) us) i (slice_index us i) ≡ us
put-back-at us once i there = by (split-at us i there) once
  where
    at : (before : List ℕ) (u : ℕ) (behind : List ℕ) → StandAtMostOnce (before ++ u ∷ behind) →
        insert (omitted (slice_index (before ++ u ∷ behind) (length before)) (before ++ u ∷ behind)) (length before) (slice_index (before ++ u ∷ behind) (length before)) ≡ before ++ u ∷ behind
    at before u behind once' =
        ap (λ (x : ℕ). insert (omitted x (before ++ u ∷ behind)) (length before) x) (index-split before u behind)
        ∙ (ap (λ (xs : List ℕ). insert xs (length before) u) (omitted-split before u behind (once' u)) ∙ put-back before u behind)

    by : IsSplit us i → StandAtMostOnce us → insert (omitted (slice_index us i) us) i (slice_index us i) ≡ us
    by s =
        subst (λ (k : ℕ). StandAtMostOnce us → insert (omitted (slice_index us k) us) k (slice_index us k) ≡ us) s.place
        (subst (λ (vs : List ℕ). StandAtMostOnce vs → insert (omitted (slice_index vs (length s.before)) vs) (length s.before) (slice_index vs (length s.before)) ≡ vs) (sym s.whole)
        (at s.before s.u s.behind))

module _ (p : Problem) (a b : ℕ) (us vs : List ℕ) (once : StandAtMostOnce us) (once' : StandAtMostOnce vs) where
  abbrev A : RouteState
  A = clients_route p a us

  abbrev B : RouteState
  B = clients_route p b vs

  abbrev s : VehicleType
  s = type_of_vehicle p a

  abbrev t : VehicleType
  t = type_of_vehicle p b

  -- the clients of a pair, what it makes and its change
  pub record IsMadePair (i j : ℕ) (pair : Pair) : Type 0 where
    pub u_is : pair.u ≡ slice_index us i
    pub v_is : pair.v ≡ slice_index vs j
    pub swap_is : star_swap p s us t vs pair.u pair.v ≡ record { first = insert (omitted pair.u us) pair.first.place pair.v; second = insert (omitted pair.v vs) pair.second.place pair.u }
    pub change_is : pair.change ≡ pair_change p s us t vs pair.u pair.v
    pub first_change : pair.first.change ≡ pos (tour p s (insert (omitted pair.u us) pair.first.place pair.v)) -ℤ pos (tour p s us)
    pub second_change : pair.second.change ≡ pos (tour p t (insert (omitted pair.v vs) pair.second.place pair.u)) -ℤ pos (tour p t vs)

  module _ (i j : ℕ) (pair : Pair) (in_i : i < length us) (in_j : j < length vs) (is : IsPairAt A B i j pair) where
    u-is : pair.u ≡ slice_index us i
    u-is = is.u_is ∙ along-here p a us once i in_i

    v-is : pair.v ≡ slice_index vs j
    v-is = is.v_is ∙ along-here p b vs once' j in_j

    one : IsMadeSide p a us i (place_of B (j + 1)) pair.first.place
    one =
        made-side p a us once i in_i (place_of B (j + 1)) pair.first.place
        (subst (λ (n : ℕ). IsLeastPlace (growth_without A i (place_of B (j + 1))) n pair.first.place) (size-visits us) is.first_turn.best)

    two : IsMadeSide p b vs j (place_of A (i + 1)) pair.second.place
    two =
        made-side p b vs once' j in_j (place_of A (i + 1)) pair.second.place
        (subst (λ (n : ℕ). IsLeastPlace (growth_without B j (place_of A (i + 1))) n pair.second.place) (size-visits vs) is.second_turn.best)

    abbrev first : List ℕ
    first = insert (omitted pair.u us) pair.first.place pair.v

    abbrev second : List ℕ
    second = insert (omitted pair.v vs) pair.second.place pair.u

    goes-first : best_inserted p s pair.v (omitted pair.u us) ≡ first
    goes-first =
        subst (λ (v : ℕ). best_inserted p s v (omitted pair.u us) ≡ insert (omitted pair.u us) pair.first.place v) (sym is.v_is)
        (subst (λ (u : ℕ). best_inserted p s (place_of B (j + 1)) (omitted u us) ≡ insert (omitted u us) pair.first.place (place_of B (j + 1))) (sym u-is) one.goes)

    goes-second : best_inserted p t pair.u (omitted pair.v vs) ≡ second
    goes-second =
        subst (λ (u : ℕ). best_inserted p t u (omitted pair.v vs) ≡ insert (omitted pair.v vs) pair.second.place u) (sym is.u_is)
        (subst (λ (v : ℕ). best_inserted p t (place_of A (i + 1)) (omitted v vs) ≡ insert (omitted v vs) pair.second.place (place_of A (i + 1))) (sym v-is) two.goes)

    far-first : pos (tour p s first) -ℤ pos (tour p s us) ≡ turn_change A i (place_of B (j + 1)) pair.first.place
    far-first =
        subst (λ (v : ℕ). pos (tour p s (insert (omitted pair.u us) pair.first.place v)) -ℤ pos (tour p s us) ≡ turn_change A i (place_of B (j + 1)) pair.first.place) (sym is.v_is)
        (subst (λ (u : ℕ). pos (tour p s (insert (omitted u us) pair.first.place (place_of B (j + 1)))) -ℤ pos (tour p s us) ≡ turn_change A i (place_of B (j + 1)) pair.first.place) (sym u-is) one.farther)

    far-second : pos (tour p t second) -ℤ pos (tour p t vs) ≡ turn_change B j (place_of A (i + 1)) pair.second.place
    far-second =
        subst (λ (u : ℕ). pos (tour p t (insert (omitted pair.v vs) pair.second.place u)) -ℤ pos (tour p t vs) ≡ turn_change B j (place_of A (i + 1)) pair.second.place) (sym is.u_is)
        (subst (λ (v : ℕ). pos (tour p t (insert (omitted v vs) pair.second.place (place_of A (i + 1)))) -ℤ pos (tour p t vs) ≡ turn_change B j (place_of A (i + 1)) pair.second.place) (sym v-is) two.farther)

    swapped : star_swap p s us t vs pair.u pair.v ≡ record { first = first; second = second }
    swapped = λ k. record { first = goes-first k; second = goes-second k }

    first-farther : pair.first.change ≡ pos (tour p s first) -ℤ pos (tour p s us)
    first-farther = is.first_turn.change_is ∙ sym far-first

    second-farther : pair.second.change ≡ pos (tour p t second) -ℤ pos (tour p t vs)
    second-farther = is.second_turn.change_is ∙ sym far-second

    pub made-pair : IsMadePair i j pair
    made-pair = record {
      u_is = u-is;
      v_is = v-is;
      swap_is = swapped;
      change_is = is.change_is ∙ (ap₂ (λ (x y : ℤ). x +ℤ y) first-farther second-farther ∙ ap (swap_change p s us t vs) (sym swapped));
      first_change = first-farther;
      second_change = second-farther;
    }

  -- the pair at two positions
  pub pair-there : (i j : ℕ) → i < length us → j < length vs → (pair : Pair) × IsPairAt A B i j pair
  pair-there i j in_i in_j = by (has-place p a us once i in_i (place_of B (j + 1))) (has-place p b vs once' j in_j (place_of A (i + 1)))
    where
      by : ((place : ℕ) × IsLeastPlace (growth_without A i (place_of B (j + 1))) (length us) place) →
          ((place : ℕ) × IsLeastPlace (growth_without B j (place_of A (i + 1))) (length vs) place) → (pair : Pair) × IsPairAt A B i j pair
      by k l = (
        record {
          change = turn_change A i (place_of B (j + 1)) k.0 +ℤ turn_change B j (place_of A (i + 1)) l.0;
          u = place_of A (i + 1);
          v = place_of B (j + 1);
          first = record { goes = i; place = k.0; change = turn_change A i (place_of B (j + 1)) k.0 };
          second = record { goes = j; place = l.0; change = turn_change B j (place_of A (i + 1)) l.0 };
        },
        record {
          u_is = refl;
          v_is = refl;
          first_turn = record { goes_is = refl; best = subst (λ (n : ℕ). IsLeastPlace (growth_without A i (place_of B (j + 1))) n k.0) (sym (size-visits us)) k.1; change_is = refl };
          second_turn = record { goes_is = refl; best = subst (λ (n : ℕ). IsLeastPlace (growth_without B j (place_of A (i + 1))) n l.0) (sym (size-visits vs)) l.1; change_is = refl };
          change_is = refl;
        },
      )

  -- the best pair makes the best swap
  module _ (pair : Pair) (best : IsBestSoFar A B (length B.visits) 0 pair) where
    pub u-there : pair.first.goes < length us
    u-there = subst (λ (n : ℕ). pair.first.goes < n) (size-visits us) best.u_there

    pub v-there : pair.second.goes < length vs
    v-there = subst (λ (n : ℕ). pair.second.goes < n) (size-visits vs) best.v_there

    pub made : IsMadePair pair.first.goes pair.second.goes pair
    made = made-pair pair.first.goes pair.second.goes pair u-there v-there best.pair_is

    leads : (i j : ℕ) → i < length us → j < length vs → (other : Pair) → IsPairAt A B i j other → Leads pair other
    leads i j in_i in_j other is =
        best.before i j (subst (λ (n : ℕ). i < n) (sym (size-visits us)) in_i) (subst (λ (n : ℕ). j < n) (sym (size-visits vs)) in_j) other is

    pub pair-swaps : best_swap p s us t vs ≡ Some (record { first = insert (omitted pair.u us) pair.first.place pair.v; second = insert (omitted pair.v vs) pair.second.place pair.u })
    pair-swaps = by (best_swap p s us t vs) (least_change p s us t vs once)
      where
        in-us : IsTrue (is_in us pair.u)
        in-us = subst (λ (u : ℕ). IsTrue (is_in us u)) (sym made.u_is) (in-there us pair.first.goes u-there)

        in-vs : IsTrue (is_in vs pair.v)
        in-vs = subst (λ (v : ℕ). IsTrue (is_in vs v)) (sym made.v_is) (in-there vs pair.second.goes v-there)

        by : (o : Option Swap) → MatchOption o (NoPair us vs) (IsLeastChange p s us t vs) →
            o ≡ Some (record { first = insert (omitted pair.u us) pair.first.place pair.v; second = insert (omitted pair.v vs) pair.second.place pair.u })
        by None none = absurd (none pair.u pair.v in-us in-vs)
        by (Some swap) least = ap (λ (x : Swap). Some x) (at (stands-somewhere us least.u least.from_first) (stands-somewhere vs least.v least.from_second))
          where
            at : StandsAtSome us least.u → StandsAtSome vs least.v → swap ≡ record { first = insert (omitted pair.u us) pair.first.place pair.v; second = insert (omitted pair.v vs) pair.second.place pair.u }
            at x y = with-other (pair-there x.at y.at x.there y.there)
              where
                with-other : ((other : Pair) × IsPairAt A B x.at y.at other) → swap ≡ record { first = insert (omitted pair.u us) pair.first.place pair.v; second = insert (omitted pair.v vs) pair.second.place pair.u }
                with-other o =
                    let other = made-pair x.at y.at o.0 x.there y.there o.1 in
                    let ahead = leads x.at y.at x.there y.there o.0 o.1 in
                    let eu : o.0.u ≡ least.u = other.u_is ∙ x.is in
                    let ev : o.0.v ≡ least.v = other.v_is ∙ y.is in
                    let theirs : o.0.change ≡ pair_change p s us t vs least.u least.v = other.change_is ∙ ap₂ (pair_change p s us t vs) eu ev in
                    let no_more : o.0.change ≤ℤ pair.change =
                    subst (λ (z : ℤ). o.0.change ≤ℤ z) (sym made.change_is) (subst (λ (z : ℤ). z ≤ℤ pair_change p s us t vs pair.u pair.v) (sym theirs) (least.least pair.u pair.v in-us in-vs)) in
                    let no_less : pair_change p s us t vs pair.u pair.v ≤ℤ pair_change p s us t vs least.u least.v =
                    subst (λ (z : ℤ). z ≤ℤ pair_change p s us t vs least.u least.v) made.change_is (subst (λ (z : ℤ). pair.change ≤ℤ z) theirs ahead.level) in
                    let u_low : pair.u ≤ o.0.u = ahead.by_u no_more in
                    let u_high : least.u ≤ pair.u = least.least_u pair.u pair.v in-us in-vs no_less in
                    let same_u : pair.u ≡ least.u = omega (arith, u_low, u_high, eu) in
                    let v_low : pair.v ≤ o.0.v = ahead.by_v no_more (same_u ∙ sym eu) in
                    let v_high : least.v ≤ pair.v =
                    least.least_v pair.v in-vs (subst (λ (u : ℕ). pair_change p s us t vs u pair.v ≤ℤ pair_change p s us t vs least.u least.v) same_u no_less) in
                    let same_v : pair.v ≡ least.v = omega (arith, v_low, v_high, ev) in
                    least.swapped ∙ (sym (ap₂ (star_swap p s us t vs) same_u same_v) ∙ made.swap_is)

    abbrev pub first_is : IsPairAt A B pair.first.goes pair.second.goes pair
    first_is = best.pair_is

    pub makes-best : MakesBestSwap p a b us vs pair
    makes-best = record {
      first = record {
        there = u-there;
        client = sym made.u_is;
        place = subst (λ (n : ℕ). pair.first.place < n) (size-visits us) first_is.first_turn.best.inside;
        change = made.first_change;
      };
      second = record {
        there = v-there;
        client = sym made.v_is;
        place = subst (λ (n : ℕ). pair.second.place < n) (size-visits vs) first_is.second_turn.best.inside;
        change = made.second_change;
      };
      swaps = pair-swaps;
      change = first_is.change_is;
    }

-- the best of all pairs of two routes
pub best-of-all : (a b : RouteState) → b.problem ≡ a.problem → (pair : Pair) → IsBestSoFar a b (length b.visits) 0 pair → IsBestPair a b pair
best-of-all a b same pair best us vs ea eb once once' =
    makes-best a.problem a.vehicle b.vehicle us vs once once' pair
    (subst (λ (y : RouteState). IsBestSoFar (clients_route a.problem a.vehicle us) y (length y.visits) 0 pair) second
    (subst (λ (x : RouteState). IsBestSoFar x b (length b.visits) 0 pair) first best))
  where
    first : a ≡ clients_route a.problem a.vehicle us
    first = λ i. record { problem = a.problem; vehicle = a.vehicle; visits = ea i }

    second : b ≡ clients_route a.problem b.vehicle vs
    second = λ i. record { problem = same i; vehicle = b.vehicle; visits = eb i }
