-- How much farther a vehicle drives where one of its clients goes and another one comes to the best place of what is left.
use Rattle.std.proofs.Common.{◌≡◌, ◌≢◌, ◌⊎◌, inl, inr, ℕ, zero, suc, ◌+◌, ◌<◌, ◌≤◌, nat_lt, Bool, true, false, List, [], ◌∷◌, ◌++◌, length, length-append, refl, sym, ◌∙◌, ap, ap₂, arith, ℤ, pos, ◌+ℤ◌, ◌-ℤ◌}
use Rattle.std.specs.Prelude.{insert, slice_index}
use Rattle.std.proofs.lemmas.Bool.{cases_eq}
use Rattle.std.proofs.lemmas.Bool.Decides.{nat_tests}
use Rattle.std.proofs.lemmas.Int.{ints}
use Rattle.problem_data.specs.declared.problem.Problem.{Problem}
use Rattle.problem_data.specs.declared.problem.VehicleType.{VehicleType}
use Rattle.problem_data.specs.Places.{leg_distance}
use Rattle.routing_model.specs.Listed.{type_of_vehicle}
use Rattle.search_model.specs.Edits.{visits_of}
use Rattle.search_model.specs.RouteMoves.{best_inserted, tour}
use Rattle.gain_model.specs.Growths.{IsLeastGrowth, WentToLeastGrowth, detour, growth, tour_places}
use Rattle.gain_model.proofs.LeastGrowths.{went_to_least}
use Rattle.gain_model.proofs.Ways.{tour-way, way}
use Rattle.route_cache.specs.Routes.{RouteState}
use Rattle.star_places.specs.Growths.{gone_of, growth_of, growth_without, instead_of, place_of}
use Rattle.star_pairs.specs.inside.Pairs.{turn_change}
use Rattle.star_places.specs.Places.{IsLeastPlace}
use Rattle.star_places.proofs.ApartLaws.{without-early, without-late, without-own}
use Rattle.star_pairs.proofs.SplitLists.{along-places, index-split, places-early, places-late, put-back}

-- a way with a place put in, without the leg that it replaces
longer-way : (leg : ℕ → ℕ → ℕ) (from to u : ℕ) (clients : List ℕ) (k : ℕ) → k ≤ length clients →
    way leg from (insert clients k u) to + leg (slice_index (from ∷ (clients ++ to ∷ [])) k) (slice_index (clients ++ to ∷ []) k)
    ≡ way leg from clients to + (leg (slice_index (from ∷ (clients ++ to ∷ [])) k) u + leg u (slice_index (clients ++ to ∷ []) k))
longer-way leg from to u [] zero h = omega arith
longer-way leg from to u [] (suc k) h = absurd (omega (arith, h))
longer-way leg from to u (x ∷ clients) zero h = omega arith
longer-way leg from to u (x ∷ clients) (suc k) h = let rest = longer-way leg x to u clients k (omega (arith, h)) in omega (arith, rest)

one_more : (k : ℕ) → k + 1 ≡ suc k
one_more k = omega arith

-- a tour with a client put in is longer by the growth
tour-grows : (p : Problem) (t : VehicleType) (clients : List ℕ) (u k : ℕ) → k ≤ length clients →
    pos (tour p t (insert clients k u)) ≡ pos (tour p t clients) +ℤ growth p t clients u k
tour-grows p t clients u k h =
    by (tour p t clients) (tour p t (insert clients k u)) (leg_distance p t.profile (slice_index (tour_places t clients) k) u)
    (leg_distance p t.profile u (slice_index (tour_places t clients) (k + 1))) (leg_distance p t.profile (slice_index (tour_places t clients) k) (slice_index (tour_places t clients) (k + 1)))
    (rw (one_more k, tour-way p t (insert clients k u), tour-way p t clients) (longer-way (leg_distance p t.profile) t.start t.end u clients k h))
  where
    by : (whole grown a b c : ℕ) → grown + c ≡ whole + (a + b) → pos grown ≡ pos whole +ℤ (pos a +ℤ pos b -ℤ pos c)
    by whole grown a b c h = omega (arith, ints)

module _ (p : Problem) (vehicle : ℕ) (before : List ℕ) (u : ℕ) (behind : List ℕ) where
  abbrev pub t : VehicleType
  t = type_of_vehicle p vehicle

  abbrev pub us : List ℕ
  us = before ++ u ∷ behind

  abbrev pub left : List ℕ
  left = before ++ behind

  abbrev pub route : RouteState
  route = record { problem = p; vehicle = vehicle; visits = visits_of us }

  abbrev i : ℕ
  i = length before

  long : length us ≡ length left + 1
  long = let a = length-append before (u ∷ behind) in let b = length-append before behind in omega (arith, a, b)

  along : (k : ℕ) → k ≤ length us + 1 → slice_index (tour_places t us) k ≡ place_of route k
  along k h = sym (along-places t us k h)

  early : (k : ℕ) → k ≤ i → slice_index (tour_places t left) k ≡ place_of route k
  early k h = places-early t before u behind k h ∙ along k (let a = length-append before (u ∷ behind) in omega (arith, a, h))

  late : (k : ℕ) → i < k → k ≤ length left + 1 → slice_index (tour_places t left) k ≡ place_of route (k + 1)
  late k h l = places-late t before u behind k h ∙ along (k + 1) (let a = long in omega (arith, a, l))

  -- how much what is left grows by a client at a place
  pub growth-left : (x k : ℕ) → k ≤ length left → growth p t left x k ≡ growth_without route i x k
  growth-left x k inside = by (cases_eq k i)
    where
      by : (k ≡ i) ⊎ (k ≢ i) → growth p t left x k ≡ growth_without route i x k
      by (inl e) =
          let next : k + 1 + 1 ≡ i + 2 = omega (arith, e) in
          ap₂ (λ (a b : ℕ). detour p t a x b) (early k (omega (arith, e)) ∙ ap (place_of route) e) (late (k + 1) (omega (arith, e)) (omega (arith, inside)) ∙ ap (place_of route) next)
          ∙ sym (without-own i (instead_of route x i) (growth_of route x) k e)
      by (inr d) = side (nat_lt k i) refl
        where
          side : (b : Bool) → nat_lt k i ≡ b → growth p t left x k ≡ growth_without route i x k
          side true e =
              let low : k < i = grind (arith, nat_tests) in
              ap₂ (λ (a b : ℕ). detour p t a x b) (early k (omega (arith, low))) (early (k + 1) (omega (arith, low)))
              ∙ sym (without-early i (instead_of route x i) (growth_of route x) k low)
          side false e =
              let no_less : i ≤ k = grind (arith, nat_tests) in
              let high : i < k = omega (arith, no_less, d) in
              ap₂ (λ (a b : ℕ). detour p t a x b) (late k high (omega (arith, inside))) (late (k + 1) (omega (arith, high)) (omega (arith, inside)))
              ∙ sym (without-late i (instead_of route x i) (growth_of route x) k high)

  -- the client that goes
  pub client-is : place_of route (i + 1) ≡ u
  client-is =
      sym (along (i + 1) (let a = length-append before (u ∷ behind) in omega (arith, a)))
      ∙ (ap (slice_index (tour_places t us)) (one_more i)
      ∙ (ap (λ (xs : List ℕ). slice_index xs i) (assoc before)
      ∙ index-split before u (behind ++ t.end ∷ [])))
    where
      assoc : (xs : List ℕ) → (xs ++ u ∷ behind) ++ t.end ∷ [] ≡ xs ++ u ∷ (behind ++ t.end ∷ [])
      assoc [] = refl
      assoc (x ∷ xs) = ap (λ (zs : List ℕ). x ∷ zs) (assoc xs)

  pub gone-left : growth p t left u i ≡ gone_of route i
  gone-left =
      let sum = length-append before behind in
      growth-left u i (omega (arith, sum))
      ∙ (without-own i (instead_of route u i) (growth_of route u) i refl
      ∙ ap (λ (x : ℕ). instead_of route x i) (sym client-is))

  -- how much farther with another client at a place of what is left
  pub turn-is : (x k : ℕ) → k ≤ length left → pos (tour p t (insert left k x)) -ℤ pos (tour p t us) ≡ turn_change route i x k
  turn-is x k inside =
      let sum = length-append before behind in
      let whole : pos (tour p t us) ≡ pos (tour p t left) +ℤ growth p t left u i =
      ap (λ (xs : List ℕ). pos (tour p t xs)) (sym (put-back before u behind)) ∙ tour-grows p t left u i (omega (arith, sum)) in
      by (pos (tour p t (insert left k x))) (pos (tour p t us)) (pos (tour p t left)) (growth p t left x k) (growth p t left u i) (growth_without route i x k) (gone_of route i)
      (tour-grows p t left x k inside) whole (growth-left x k inside) gone-left
    where
      by : (new old rest come go come' go' : ℤ) → new ≡ rest +ℤ come → old ≡ rest +ℤ go → come ≡ come' → go ≡ go' → new -ℤ old ≡ come' -ℤ go'
      by new old rest come go come' go' a b c d = omega (arith, ints)

  -- the place of the least growth, in both words
  pub least-growth : (x place : ℕ) → IsLeastPlace (growth_without route i x) (length us) place → IsLeastGrowth p t left x place
  least-growth x place is =
      let size = long in
      let inside : place ≤ length left = let a = is.inside in omega (arith, a, size) in
      let here = growth-left x place inside in
      record {
        inside = inside;
        least = λ other l. let m = is.least other (omega (arith, l, size)) in let there = growth-left x other l in omega (arith, ints, m, here, there);
        first = λ other l h. let there = growth-left x other l in is.earliest other (omega (arith, l, size)) (omega (arith, ints, h, here, there));
      }

  pub least-place : (x place : ℕ) → IsLeastGrowth p t left x place → IsLeastPlace (growth_without route i x) (length us) place
  least-place x place is =
      let size = long in
      let here = growth-left x place is.inside in
      record {
        inside = let a = is.inside in omega (arith, a, size);
        least = λ k h. let l : k ≤ length left = omega (arith, h, size) in let m = is.least k l in let there = growth-left x k l in omega (arith, ints, m, here, there);
        earliest = λ k h z. let l : k ≤ length left = omega (arith, h, size) in let there = growth-left x k l in is.first k l (omega (arith, ints, z, here, there));
      }

  -- a client goes to that place
  pub goes-there : (x place : ℕ) → IsLeastPlace (growth_without route i x) (length us) place → best_inserted p t x left ≡ insert left place x
  goes-there x place is = by (went_to_least p t x left)
    where
      by : WentToLeastGrowth p t x left (best_inserted p t x left) → best_inserted p t x left ≡ insert left place x
      by went =
          let ours = least-growth x place is in
          let a = ours.first went.place went.is_least.inside (went.is_least.least place ours.inside) in
          let b = went.is_least.first place ours.inside (ours.least went.place went.is_least.inside) in
          let same : went.place ≡ place = omega (arith, a, b) in
          went.put ∙ ap (λ (k : ℕ). insert left k x) same

  -- and there is one
  pub some-place : (x : ℕ) → (place : ℕ) × IsLeastPlace (growth_without route i x) (length us) place
  some-place x = by (went_to_least p t x left)
    where
      by : WentToLeastGrowth p t x left (best_inserted p t x left) → (place : ℕ) × IsLeastPlace (growth_without route i x) (length us) place
      by went = (went.place, least-place x went.place went.is_least)
