-- A plan in which a client is put behind another one with a reload beside it is lawful exactly where the neighbour's vehicle has no more
-- reloads than its type allows. U stands at place k of vehicle a, V at place l of vehicle b, from 0.
use Rattle.std.proofs.Common.{◌≡◌, ◌≢◌, ℕ, zero, suc, ◌+◌, ◌<◌, ◌≤◌, Bool, true, false, ◌&&◌, ◌||◌, cond, List, [], ◌∷◌, length, get_or, set, refl, sym, ◌∙◌, ap, ap₂, arith, length-set}
use Rattle.std.specs.Prelude.{flat_map, nat_eq, nat_le}
use Rattle.std.specs.List.{list_all}
use Rattle.std.proofs.lemmas.Bool.Decides.{nat_tests}
use Rattle.std.proofs.lemmas.List.{get_or-set_other, get_or-set_same, length-map, set-get_or, set-set}
use Rattle.std.proofs.lemmas.List.Folds.{list_all-append}
use Rattle.std.proofs.lemmas.List.Sums.{sum_by-cons}
use Rattle.problem_data.specs.declared.problem.Problem.{Problem}
use Rattle.problem_data.specs.declared.problem.VehicleType.{VehicleType}
use Rattle.problem_data.specs.declared.visit.Visit.{Visit}
use Rattle.problem_data.specs.declared.visit.Visit.TheVariants.{Client, Reload}
use Rattle.problem_data.specs.Places.{fleet, is_depot_place, type_at, type_of, types_of_vehicles, vehicle_count}
use Rattle.routing_model.specs.Lawful.{IsLawful, is_allowed, is_lawful, names_place, names_places, reloads_as_allowed}
use Rattle.routing_model.specs.Routes.{Routes, has_client, is_used, is_visit_of, is_visited, list_at, visit_count}
use Rattle.routing_model.specs.Tidy.{tidied, tidied_behind, tidied_routes}
use Rattle.routing_model.proofs.LawfulAgain.{HasNoMoreReloads, HaveNoMoreReloads, all-allowed-again, is_reload_that, named-visited, reloads-append, reloads-cons, reloads-tidied, reloads_that, times-tidied}
use Rattle.routing_model.proofs.LawfulChanges.{all_allowed, allowed-set, not-allowed-set, type-in-fleet}
use Rattle.routing_model.proofs.LawfulFacts.{lawful-facts}
use Rattle.routing_model.proofs.VisitCounts.{is_visited-count}
use Rattle.search_model.specs.Edits.{substituted}
use Rattle.search_model.specs.Reloads.{with_behind}
use Rattle.search_model.proofs.ClientPlaces.{Once, StandsAt, elsewhere-not, list-read, tally, times-append, times_in, vehicle-there, visited-at}
use Rattle.search_model.proofs.LawfulMoves.{all-tidied}
use Rattle.search_model.proofs.RunMoves.{lawful-once}
use Rattle.route_cache.specs.Marks.{reloads_in}
use Rattle.reload_puts.proofs.PlansAgain.{lawful-as-allowed}

and-first : (a b : Bool) → (a && b) ≡ true → a ≡ true
and-first true b h = refl
and-first false b h = h

and-second : (a b : Bool) → (a && b) ≡ true → b ≡ true
and-second true b h = h
and-second false b h = cc

both : (a b : Bool) → a ≡ true → b ≡ true → (a && b) ≡ true
both true b h k = k
both false b h k = h

or-first : (a b : Bool) → (a || b) ≡ false → a ≡ false
or-first true b h = cc
or-first false b h = refl

or-second : (a b : Bool) → (a || b) ≡ false → b ≡ false
or-second true b h = cc
or-second false b h = h

same-number : (m n : ℕ) → nat_eq m n ≡ true → m ≡ n
same-number m n h = grind (arith, nat_tests)

other-number : (m n : ℕ) → m ≢ n → nat_eq m n ≡ false
other-number m n h = grind (arith, nat_tests)

times-cons : (c : ℕ) (x : Visit) (xs : List Visit) → times_in c (x ∷ xs) ≡ tally (is_visit_of c x) + times_in c xs
times-cons c x xs = sum_by-cons (λ visit. cond (is_visit_of c visit) 1 0) x xs

-- tidying leaves what passes
all-tidied-pass : (q : Visit → Bool) (behind : Bool) (xs : List Visit) → list_all q xs ≡ true → list_all q (tidied_behind behind xs) ≡ true
all-tidied-pass q behind [] all = refl
all-tidied-pass q behind (Client place ∷ xs) all =
    both (q (Client place)) (list_all q (tidied_behind true xs)) (and-first (q (Client place)) (list_all q xs) all)
    (all-tidied-pass q true xs (and-second (q (Client place)) (list_all q xs) all))
all-tidied-pass q behind (Reload depot ∷ xs) all =
    by (behind && is_used xs) (and-first (q (Reload depot)) (list_all q xs) all) (all-tidied-pass q false xs (and-second (q (Reload depot)) (list_all q xs) all))
  where
    by : (t : Bool) → q (Reload depot) ≡ true → list_all q (tidied_behind false xs) ≡ true → list_all q (cond t (Reload depot ∷ tidied_behind false xs) (tidied_behind false xs)) ≡ true
    by true first rest = both (q (Reload depot)) (list_all q (tidied_behind false xs)) first rest
    by false first rest = rest

-- new visits: the client, once, and reloads at a depot
pub record ArePutVisits (u depot : ℕ) (new : List Visit) : Type 0 where
  pub once : times_in u new ≡ 1
  pub no_other : (c : ℕ) → c ≢ u → times_in c new ≡ 0
  pub pass : (q : Visit → Bool) → q (Client u) ≡ true → q (Reload depot) ≡ true → list_all q new ≡ true

module _ (u v : ℕ) (differ : u ≢ v) (depot : ℕ) (new : List Visit) (are : ArePutVisits u depot new) where
  abbrev edit : Visit → List Visit
  edit = with_behind u v new

  -- what becomes of a visit
  edit-client : (place : ℕ) (s t : Bool) → nat_eq place u ≡ s → nat_eq place v ≡ t → edit (Client place) ≡ cond s [] (cond t (Client place ∷ new) (Client place ∷ []))
  edit-client place s t e f = ap₂ (λ (x y : Bool). cond x [] (cond y (Client place ∷ new) (Client place ∷ []))) e f

  -- the client comes for its neighbour
  edit-u : (x : Visit) → times_in u (edit x) ≡ tally (is_visit_of v x)
  edit-u (Reload d) = refl
  edit-u (Client place) = by (nat_eq place u) (nat_eq place v) refl refl
    where
      by : (s t : Bool) → nat_eq place u ≡ s → nat_eq place v ≡ t → times_in u (edit (Client place)) ≡ tally (nat_eq place v)
      by true true e f = absurd (differ (sym (same-number place u e) ∙ same-number place v f))
      by true false e f = ap (times_in u) (edit-client place true false e f) ∙ ap tally (sym f)
      by false true e f =
          ap (times_in u) (edit-client place false true e f) ∙ times-cons u (Client place) new
          ∙ ap₂ (λ (b : Bool) (n : ℕ). tally b + n) e are.once ∙ ap tally (sym f)
      by false false e f =
          ap (times_in u) (edit-client place false false e f) ∙ times-cons u (Client place) [] ∙ ap (λ (b : Bool). tally b + 0) e ∙ ap tally (sym f)

  -- any other client stays
  edit-other : (c : ℕ) → c ≢ u → (x : Visit) → times_in c (edit x) ≡ tally (is_visit_of c x)
  edit-other c other (Reload d) = refl
  edit-other c other (Client place) = by (nat_eq place u) (nat_eq place v) refl refl
    where
      by : (s t : Bool) → nat_eq place u ≡ s → nat_eq place v ≡ t → times_in c (edit (Client place)) ≡ tally (nat_eq place c)
      by true t e f =
          ap (times_in c) (edit-client place true t e f)
          ∙ ap tally (sym (other-number place c (λ h. other (sym h ∙ same-number place u e))))
      by false true e f =
          ap (times_in c) (edit-client place false true e f) ∙ times-cons c (Client place) new
          ∙ ap (λ (n : ℕ). tally (nat_eq place c) + n) (are.no_other c other) ∙ zero-added (tally (nat_eq place c))
        where
          zero-added : (n : ℕ) → n + 0 ≡ n
          zero-added n = omega arith
      by false false e f = ap (times_in c) (edit-client place false false e f) ∙ times-cons c (Client place) [] ∙ zero-added (tally (nat_eq place c))
        where
          zero-added : (n : ℕ) → n + 0 ≡ n
          zero-added n = omega arith

  edited : (c d : ℕ) → ((x : Visit) → times_in c (edit x) ≡ tally (is_visit_of d x)) → (xs : List Visit) → times_in c (flat_map edit xs) ≡ times_in d xs
  edited c d each [] = refl
  edited c d each (x ∷ xs) =
      times-append c (edit x) (flat_map edit xs)
      ∙ ap₂ (λ (m n : ℕ). m + n) (each x) (edited c d each xs)
      ∙ sym (times-cons d x xs)

  counted : (c d : ℕ) → ((x : Visit) → times_in c (edit x) ≡ tally (is_visit_of d x)) → (routes : Routes) → visit_count (tidied_routes (substituted edit routes)) c ≡ visit_count routes d
  counted c d each [] = refl
  counted c d each (xs ∷ rest) =
      sum_by-cons (times_in c) (tidied (flat_map edit xs)) (tidied_routes (substituted edit rest))
      ∙ ap₂ (λ (m n : ℕ). m + n) (times-tidied c false (flat_map edit xs) ∙ edited c d each xs) (counted c d each rest)
      ∙ sym (sum_by-cons (times_in d) xs rest)

  -- what passes
  edit-pass : (q : Visit → Bool) → q (Client u) ≡ true → q (Reload depot) ≡ true → (x : Visit) → q x ≡ true → list_all q (edit x) ≡ true
  edit-pass q of_u of_depot (Reload d) pass = both (q (Reload d)) true pass refl
  edit-pass q of_u of_depot (Client place) pass = by (nat_eq place u) (nat_eq place v) refl refl
    where
      by : (s t : Bool) → nat_eq place u ≡ s → nat_eq place v ≡ t → list_all q (edit (Client place)) ≡ true
      by true t e f = ap (list_all q) (edit-client place true t e f)
      by false true e f = ap (list_all q) (edit-client place false true e f) ∙ both (q (Client place)) (list_all q new) pass (are.pass q of_u of_depot)
      by false false e f = ap (list_all q) (edit-client place false false e f) ∙ both (q (Client place)) true pass refl

  put-pass : (q : Visit → Bool) → q (Client u) ≡ true → q (Reload depot) ≡ true → (xs : List Visit) → list_all q xs ≡ true → list_all q (flat_map edit xs) ≡ true
  put-pass q of_u of_depot [] all = refl
  put-pass q of_u of_depot (x ∷ xs) all =
      list_all-append q (edit x) (flat_map edit xs)
      ∙ both (list_all q (edit x)) (list_all q (flat_map edit xs)) (edit-pass q of_u of_depot x (and-first (q x) (list_all q xs) all))
      (put-pass q of_u of_depot xs (and-second (q x) (list_all q xs) all))

  plan-pass : (q : Visit → Bool) → q (Client u) ≡ true → q (Reload depot) ≡ true → (routes : Routes) → list_all (list_all q) routes ≡ true → list_all (list_all q) (tidied_routes (substituted edit routes)) ≡ true
  plan-pass q of_u of_depot [] all = refl
  plan-pass q of_u of_depot (xs ∷ rest) all =
      both (list_all q (tidied (flat_map edit xs))) (list_all (list_all q) (tidied_routes (substituted edit rest)))
      (all-tidied-pass q false (flat_map edit xs) (put-pass q of_u of_depot xs (and-first (list_all q xs) (list_all (list_all q) rest) all)))
      (plan-pass q of_u of_depot rest (and-second (list_all q xs) (list_all (list_all q) rest) all))

  -- a list without the neighbour gets no reload
  edit-reloads : (q : Visit → Bool) (x : Visit) → is_visit_of v x ≡ false → reloads_that q (edit x) ≡ tally (is_reload_that q x)
  edit-reloads q (Reload d) none = reloads-cons q (Reload d) [] ∙ (let zero-added : (n : ℕ) → n + 0 ≡ n = λ n. omega arith in zero-added (tally (is_reload_that q (Reload d))))
  edit-reloads q (Client place) none = by (nat_eq place u) refl
    where
      by : (s : Bool) → nat_eq place u ≡ s → reloads_that q (edit (Client place)) ≡ 0
      by true e = ap (reloads_that q) (edit-client place true false e none)
      by false e = ap (reloads_that q) (edit-client place false false e none) ∙ reloads-cons q (Client place) []

  no-more : (q : Visit → Bool) (xs : List Visit) → has_client v xs ≡ false → reloads_that q (flat_map edit xs) ≡ reloads_that q xs
  no-more q [] none = refl
  no-more q (x ∷ xs) none =
      reloads-append q (edit x) (flat_map edit xs)
      ∙ ap₂ (λ (m n : ℕ). m + n) (edit-reloads q x (or-first (is_visit_of v x) (has_client v xs) none)) (no-more q xs (or-second (is_visit_of v x) (has_client v xs) none))
      ∙ sym (reloads-cons q x xs)

  put-fewer : (xs : List Visit) → has_client v xs ≡ false → HasNoMoreReloads (tidied (flat_map edit xs)) xs
  put-fewer xs none q =
      let e = no-more q xs none in
      let f = reloads-tidied q false (flat_map edit xs) in
      omega arith

  -- in a lawful plan
  module _ (p : Problem) (routes : Routes) (lawful : is_lawful p routes ≡ true) (a k : ℕ) (at_u : StandsAt routes u a k) (b l : ℕ) (at_v : StandsAt routes v b l) where
    abbrev plan : Routes
    plan = tidied_routes (substituted (with_behind u v new) routes)

    facts : IsLawful p routes
    facts = lawful-facts p routes lawful

    once : Once routes
    once = lawful-once p routes lawful

    long : length plan ≡ length routes
    long = length-map (substituted edit routes) tidied ∙ length-map routes (flat_map edit)

    in_b : b < length routes
    in_b = vehicle-there routes v b l at_v

    one : (c : ℕ) → is_visited routes c ≡ true → visit_count routes c ≡ 1
    one c visited = exactly (visit_count routes c) (sym (is_visited-count c routes) ∙ visited) (once c)
      where
        exactly : (n : ℕ) → nat_le 1 n ≡ true → n ≤ 1 → n ≡ 1
        exactly n h m = grind (arith, nat_tests)

    counts : (c : ℕ) → visit_count plan c ≡ visit_count routes c
    counts c = by (nat_eq c u) refl
      where
        by : (s : Bool) → nat_eq c u ≡ s → visit_count plan c ≡ visit_count routes c
        by true e =
            let same : c ≡ u = same-number c u e in
            ap (visit_count plan) same ∙ counted u v edit-u routes ∙ one v (visited-at routes v b l (once v) at_v)
            ∙ sym (ap (visit_count routes) same ∙ one u (visited-at routes u a k (once u) at_u))
        by false e = counted c c (edit-other c (differs e)) routes
          where
            differs : nat_eq c u ≡ false → c ≢ u
            differs e h = let f : nat_eq c u ≡ true = grind (arith, nat_tests) in let z : true ≡ false = sym f ∙ e in cc

    module _ (of_depot : is_depot_place p depot ≡ true) where
      named : names_places p plan ≡ true
      named = plan-pass (names_place p) (named-visited p routes u facts.names_places (visited-at routes u a k (once u) at_u)) of_depot routes facts.names_places

      by-reloads : is_lawful p plan ≡ all_allowed (fleet p) plan
      by-reloads = lawful-as-allowed p routes plan lawful long counts (all-tidied (substituted edit routes)) named

      -- the list of each vehicle
      abbrev put-list : List Visit → List Visit
      put-list xs = tidied (flat_map edit xs)

      plan-at : (i : ℕ) → get_or plan i [] ≡ put-list (get_or routes i [])
      plan-at i = list-there routes i
        where
          list-there : (rs : Routes) (i : ℕ) → get_or (tidied_routes (substituted edit rs)) i [] ≡ put-list (get_or rs i [])
          list-there [] zero = refl
          list-there [] (suc i) = refl
          list-there (xs ∷ rest) zero = refl
          list-there (xs ∷ rest) (suc i) = list-there rest i

      abbrev others : Routes
      others = set plan b (get_or routes b [])

      fewer : HaveNoMoreReloads others routes
      fewer i q = by (nat_eq i b) refl
        where
          by : (s : Bool) → nat_eq i b ≡ s → reloads_that q (get_or others i []) ≤ reloads_that q (get_or routes i [])
          by true e =
              let same : i ≡ b = same-number i b e in
              let h : reloads_that q (get_or others i []) ≡ reloads_that q (get_or routes i []) =
              ap (λ (j : ℕ). reloads_that q (get_or others j [])) same
              ∙ ap (reloads_that q) (get_or-set_same plan b (get_or routes b []) [] (let x = long in let y = in_b in omega arith))
              ∙ sym (ap (λ (j : ℕ). reloads_that q (get_or routes j [])) same) in
              omega (arith, h)
          by false e =
              let apart : i ≢ b = λ h. (let f : nat_eq i b ≡ true = grind (arith, nat_tests) in let z : true ≡ false = sym f ∙ e in cc) in
              let h : reloads_that q (get_or others i []) ≡ reloads_that q (put-list (get_or routes i [])) =
              ap (reloads_that q) (get_or-set_other plan b i (get_or routes b []) [] apart ∙ plan-at i) in
              let f = put-fewer (get_or routes i []) (elsewhere-not routes v b l (once v) at_v i apart) q in
              omega (arith, h, f)

      allowed-others : all_allowed (fleet p) others ≡ true
      allowed-others = all-allowed-again (fleet p) others routes (length-set plan b (get_or routes b []) ∙ long) fewer facts.reloads_as_allowed

      in-fleet : b < length (fleet p)
      in-fleet =
          let count : length routes ≡ vehicle_count p = facts.one_list_each in
          let fleet_count : length (fleet p) ≡ vehicle_count p = length-map (types_of_vehicles p) (type_at p) in
          let there = in_b in
          omega arith

      abbrev type_b : VehicleType
      type_b = type_at p (type_of p b)

      of-fleet : get_or (fleet p) b (type_at p 0) ≡ type_b
      of-fleet = type-in-fleet p b (let count : length routes ≡ vehicle_count p = facts.one_list_each in let there = in_b in omega arith)

      allowed-there : all_allowed (fleet p) plan ≡ reloads_as_allowed type_b (get_or plan b [])
      allowed-there =
          ap (all_allowed (fleet p)) (sym (set-set plan b (get_or routes b []) (get_or plan b []) ∙ set-get_or plan b []))
          ∙ allowed-set (fleet p) others b (get_or plan b []) (type_at p 0) in-fleet (let e = length-set plan b (get_or routes b []) in let f = long in let g = in_b in omega arith) allowed-others
          ∙ ap (λ (t : VehicleType). reloads_as_allowed t (get_or plan b [])) of-fleet

      module _ (allowed : is_allowed type_b (Reload depot) ≡ true) where
        own-allowed : list_all (is_allowed type_b) (get_or routes b []) ≡ true
        own-allowed =
            and-first (list_all (is_allowed type_b) (get_or routes b [])) (nat_le (reloads_in (get_or routes b [])) type_b.reloads)
            (sym (ap (λ (t : VehicleType). reloads_as_allowed t (get_or routes b [])) of-fleet)
            ∙ not-allowed-set (fleet p) routes b (type_at p 0) [] in-fleet in_b facts.reloads_as_allowed)

        there-allowed : list_all (is_allowed type_b) (get_or plan b []) ≡ true
        there-allowed =
            ap (list_all (is_allowed type_b)) (plan-at b)
            ∙ all-tidied-pass (is_allowed type_b) false (flat_map edit (get_or routes b [])) (put-pass (is_allowed type_b) refl allowed (get_or routes b []) own-allowed)

        pub put-lawful : is_lawful p (tidied_routes (substituted (with_behind u v new) routes)) ≡ nat_le (reloads_in (list_at (tidied_routes (substituted (with_behind u v new) routes)) b)) (type_at p (type_of p b)).reloads
        put-lawful =
            by-reloads ∙ allowed-there
            ∙ ap (λ (t : Bool). t && nat_le (reloads_in (get_or plan b [])) type_b.reloads) there-allowed
            ∙ ap (λ (xs : List Visit). nat_le (reloads_in xs) type_b.reloads) (sym (list-read plan b))
