-- Inserting missing clients keeps a plan lawful but for what is missing, and in the end nothing is.
use Rattle.std.proofs.Common.{◌≡◌, ◌∙◌, sym, refl, ap, ap₂, subst, ℕ, zero, suc, ◌+◌, ◌≤◌, ◌<◌, ◌==◌, ◌&&◌, ◌||◌, ◌⊎◌, inl, inr, ⊎_elim, not, Bool, true, false, cond, List, [], ◌∷◌, ◌++◌, length, get_or, set, insert, filter, fold, sum_by, count_by, All, Contains, Option, Some, None, is_none, unwrap_or, arith, length-append}
use Rattle.std.specs.List.{flat_map, list_all, list_any, range_with_len}
use Rattle.std.specs.Prelude.{nat_le, nat_lt}
use Rattle.std.proofs.lemmas.Bool.{and_parts, and_from, both_ways, cases_eq, eq-eqb, eqb-true, le-leb, leb-true, or_cases}
use Rattle.std.proofs.lemmas.List.{length-set, get_or-set_same, get_or-set_other}
use Rattle.std.proofs.lemmas.List.Elements.{All-append, All-filter, All-get_or, All-head, All-map, All-nil, All-tail, All-weaker}
use Rattle.std.proofs.lemmas.List.Folds.{Any-from_list_any, list_any_at}
use Rattle.std.proofs.lemmas.List.FromFn.{length-map-range_with_len}
use Rattle.std.proofs.lemmas.List.Sums.{AllPass-from_list_all, sum_by-cons, sum_by-insert, sum_by-set}
use Rattle.std.proofs.lemmas.Option.{unwrap_or-slice_get}
use Rattle.list_words.specs.Lists.{places_of}
use Rattle.list_words.specs.Order.{first_least, first_least_from}
use Rattle.problem_data.specs.declared.problem.Problem.{Problem}
use Rattle.problem_data.specs.declared.problem.VehicleType.{VehicleType}
use Rattle.problem_data.specs.declared.visit.Visit.{Visit}
use Rattle.problem_data.specs.declared.visit.Visit.TheVariants.{Client, Reload}
use Rattle.problem_data.specs.Places.{client_at, group_at, is_client_place, type_at, type_of, vehicle_count}
use Rattle.problem_data.specs.Valid.{IsValid}
use Rattle.routing_model.specs.declared.weights.Weights.{Weights}
use Rattle.routing_model.specs.Cost.{solution_cost}
use Rattle.routing_model.specs.Lawful.{is_allowed, is_required, is_required_group, names_place, names_places, reloads_as_allowed}
use Rattle.routing_model.specs.Routes.{Routes, is_client, is_used, is_visited, list_at, clients_of}
use Rattle.routing_model.specs.Tidy.{is_tidy, is_tidy_behind}
use Rattle.search_model.specs.RouteMoves.{is_used_or_least}
use Rattle.random_model.specs.Groups.{is_same_group}
use Rattle.random_model.proofs.DrawnClients.{is_of_group}
use Rattle.random_model.proofs.GroupMembers.{count_some, of_group-member}
use Rattle.random_model.proofs.RandomOrders.{All-range}
use Rattle.genetic_model.specs.Insertion.{completed_with, insertions, insertions_into, is_missing, leads_unserved}
use Rattle.genetic_model.proofs.RouteTotals.{all-named, all_clients, count-cons, count_nothing, total, total-count, visited-any}
use Rattle.genetic_model.proofs.SoundChildren.{IsSound}

-- what a visit counts by a test of clients
abbrev weight : (ℕ → Bool) → Visit → ℕ
weight f (Client c) = cond (f c) 1 0
weight f (Reload d) = 0

count-weight : (f : ℕ → Bool) (visits : List Visit) → count_by f (clients_of visits) ≡ sum_by (weight f) visits
count-weight f [] = refl
count-weight f (Client c ∷ visits) = count-cons f c (clients_of visits) ∙ ap (λ n. cond (f c) 1 0 + n) (count-weight f visits) ∙ sym (sum_by-cons (weight f) (Client c) visits)
count-weight f (Reload d ∷ visits) = let a = count-weight f visits in let b = sum_by-cons (weight f) (Reload d) visits in omega arith

count-insert : (f : ℕ → Bool) (visits : List Visit) (i c : ℕ) → count_by f (clients_of (insert visits i (Client c))) ≡ count_by f (clients_of visits) + cond (f c) 1 0
count-insert f visits i c =
    count-weight f (insert visits i (Client c)) ∙ sum_by-insert (weight f) visits i (Client c) ∙ ap (λ n. n + cond (f c) 1 0) (sym (count-weight f visits))

module _ {X : Type 0} (test : X → Bool) where
  all-insert : (xs : List X) (i : ℕ) (y : X) → list_all test xs ≡ true → test y ≡ true → list_all test (insert xs i y) ≡ true
  all-insert [] zero y h k = and_from (test y) true k refl
  all-insert [] (suc i) y h k = and_from (test y) true k refl
  all-insert (x ∷ xs) zero y h k = and_from (test y) (list_all test (x ∷ xs)) k h
  all-insert (x ∷ xs) (suc i) y h k = let both = and_parts (test x) (list_all test xs) h in and_from (test x) (list_all test (insert xs i y)) both.0 (all-insert xs i y both.1 k)

  all-set : (xs : List X) (i : ℕ) (y : X) → list_all test xs ≡ true → test y ≡ true → list_all test (set xs i y) ≡ true
  all-set [] i y h k = refl
  all-set (x ∷ xs) zero y h k = let both = and_parts (test x) (list_all test xs) h in and_from (test y) (list_all test xs) k both.1
  all-set (x ∷ xs) (suc i) y h k = let both = and_parts (test x) (list_all test xs) h in and_from (test x) (list_all test (set xs i y)) both.0 (all-set xs i y both.1 k)

  all-at : (xs : List X) (i : ℕ) (d : X) → test d ≡ true → list_all test xs ≡ true → test (get_or xs i d) ≡ true
  all-at [] i d k h = k
  all-at (x ∷ xs) zero d k h = let both = and_parts (test x) (list_all test xs) h in both.0
  all-at (x ∷ xs) (suc i) d k h = let both = and_parts (test x) (list_all test xs) h in all-at xs i d k both.1

used-insert : (visits : List Visit) (i c : ℕ) → is_used (insert visits i (Client c)) ≡ true
used-insert [] zero c = refl
used-insert [] (suc i) c = refl
used-insert (x ∷ visits) zero c = refl
used-insert (x ∷ visits) (suc i) c = by (is_client x) (used-insert visits i c)
  where
    by : (b : Bool) → is_used (insert visits i (Client c)) ≡ true → (b || is_used (insert visits i (Client c))) ≡ true
    by true h = refl
    by false h = h

tidy-behind_client : (behind : Bool) (visits : List Visit) → is_tidy_behind behind visits ≡ true → is_tidy_behind true visits ≡ true
tidy-behind_client true visits h = h
tidy-behind_client false [] h = h
tidy-behind_client false (Client c ∷ visits) h = h
tidy-behind_client false (Reload d ∷ visits) h = absurd (both_ways false refl h)

-- a client may stand anywhere in a tidy list
tidy-insert : (behind : Bool) (visits : List Visit) (i c : ℕ) → is_tidy_behind behind visits ≡ true → is_tidy_behind behind (insert visits i (Client c)) ≡ true
tidy-insert behind [] zero c h = refl
tidy-insert behind [] (suc i) c h = refl
tidy-insert behind (x ∷ visits) zero c h = tidy-behind_client behind (x ∷ visits) h
tidy-insert behind (Client d ∷ visits) (suc i) c h = tidy-insert true visits i c h
tidy-insert behind (Reload d ∷ visits) (suc i) c h =
    let both = and_parts (behind && is_used visits) (is_tidy_behind false visits) h in
    let first = and_parts behind (is_used visits) both.0 in
    and_from (behind && is_used (insert visits i (Client c))) _ (and_from behind (is_used (insert visits i (Client c))) first.0 (used-insert visits i c)) (tidy-insert false visits i c both.1)

allowed-insert : (t : VehicleType) (visits : List Visit) (i c : ℕ) → reloads_as_allowed t visits ≡ true → reloads_as_allowed t (insert visits i (Client c)) ≡ true
allowed-insert t visits i c h =
    let both = and_parts (list_all (is_allowed t) visits) (nat_le (count_by (λ visit. not (is_client visit)) visits) t.reloads) h in
    let few = leb-true (count_by (λ visit. not (is_client visit)) visits) t.reloads both.1 in
    let more = sum_by-insert (λ (visit : Visit). cond (not (is_client visit)) 1 0) visits i (Client c) in
    and_from (list_all (is_allowed t) (insert visits i (Client c))) _ (all-insert (is_allowed t) visits i (Client c) both.0 refl)
    (le-leb (count_by (λ visit. not (is_client visit)) (insert visits i (Client c))) t.reloads (omega arith))

-- a plan with a client put in somewhere
pub record IsInserted (routes : Routes) (c : ℕ) (made : Routes) : Type 0 where
  pub vehicle : ℕ
  pub position : ℕ
  pub there : vehicle < length routes
  pub is : made ≡ set routes vehicle (insert (list_at routes vehicle) position (Client c))

module _ (routes : Routes) (c v i : ℕ) (h : v < length routes) where
  abbrev pub put : Routes
  put = set routes v (insert (list_at routes v) i (Client c))

  pub total-put : (f : ℕ → Bool) → total f put ≡ total f routes + cond (f c) 1 0
  total-put f =
      let a = sum_by-set (λ (visits : List Visit). count_by f (clients_of visits)) routes v (insert (list_at routes v) i (Client c)) [] h in
      let b = count-insert f (list_at routes v) i c in
      let e = ap (λ (visits : List Visit). count_by f (clients_of visits)) (unwrap_or-slice_get routes v []) in
      omega arith

  pub put-at : (u : ℕ) → (list_at put u ≡ list_at routes u) ⊎ ((u ≡ v) × (list_at put u ≡ insert (list_at routes v) i (Client c)))
  put-at u = ⊎_elim
      (λ e. inr (e, unwrap_or-slice_get put u [] ∙ ap (λ n. get_or put n []) e ∙ get_or-set_same routes v (insert (list_at routes v) i (Client c)) [] h))
      (λ n. inl (unwrap_or-slice_get put u [] ∙ get_or-set_other routes v u (insert (list_at routes v) i (Client c)) [] n ∙ sym (unwrap_or-slice_get routes u [])))
      (cases_eq u v)

  put-sound : (p : Problem) → IsSound p routes → is_client_place p c ≡ true →
      total (λ d. d == c) routes ≡ 0 → ((group : ℕ) → group < length p.groups → is_of_group p group c ≡ true → total (is_of_group p group) routes ≡ 0) → IsSound p put
  put-sound p s place none alone = record {
    one_list_each = length-set routes v (insert (list_at routes v) i (Client c)) ∙ s.one_list_each;
    named = all-set (list_all (names_place p)) routes v (insert (list_at routes v) i (Client c)) s.named
        (all-insert (names_place p) (list_at routes v) i (Client c)
        (ap (list_all (names_place p)) (unwrap_or-slice_get routes v []) ∙ all-at (list_all (names_place p)) routes v [] refl s.named) place);
    once = λ d. rw (total-put (λ k. k == d)) (by d (c == d) refl (s.once d));
    one = λ group there. rw (total-put (is_of_group p group)) (by_group group (is_of_group p group c) refl there (s.one group there));
    tidy = all-set is_tidy routes v (insert (list_at routes v) i (Client c)) s.tidy
        (tidy-insert false (list_at routes v) i c (ap is_tidy (unwrap_or-slice_get routes v []) ∙ all-at is_tidy routes v [] refl s.tidy));
    allowed = λ u below. let long = length-set routes v (insert (list_at routes v) i (Client c)) in at u (put-at u) (s.allowed u (omega arith));
  }
    where
      by : (d : ℕ) (b : Bool) → (c == d) ≡ b → total (λ k. k == d) routes ≤ 1 → total (λ k. k == d) routes + cond b 1 0 ≤ 1
      by d true e l = let z : total (λ k. k == d) routes ≡ 0 = ap (λ m. total (λ k. k == m) routes) (sym (eqb-true c d e)) ∙ none in omega arith
      by d false e l = omega arith

      by_group : (group : ℕ) (b : Bool) → is_of_group p group c ≡ b → group < length p.groups → total (is_of_group p group) routes ≤ 1 → total (is_of_group p group) routes + cond b 1 0 ≤ 1
      by_group group true e there l = let z = alone group there e in omega arith
      by_group group false e there l = omega arith

      at : (u : ℕ) → (list_at put u ≡ list_at routes u) ⊎ ((u ≡ v) × (list_at put u ≡ insert (list_at routes v) i (Client c))) →
          reloads_as_allowed (type_at p (type_of p u)) (list_at routes u) ≡ true → reloads_as_allowed (type_at p (type_of p u)) (list_at put u) ≡ true
      at u (inl e) k = ap (reloads_as_allowed (type_at p (type_of p u))) e ∙ k
      at u (inr e) k =
          ap (reloads_as_allowed (type_at p (type_of p u))) e.1
          ∙ allowed-insert (type_at p (type_of p u)) (list_at routes v) i c (ap (λ n. reloads_as_allowed (type_at p (type_of p u)) (list_at routes n)) (sym e.0) ∙ k)

-- a client is visited where it is counted
pub visited-counted : (routes : Routes) (c : ℕ) → is_visited routes c ≡ true → 1 ≤ total (λ d. d == c) routes
visited-counted routes c h =
    let e = total-count (λ d. d == c) routes in let some = count_some (λ d. d == c) (all_clients routes) (sym (visited-any c routes) ∙ h) in omega arith

pub counted-visited : (routes : Routes) (c : ℕ) → 1 ≤ total (λ d. d == c) routes → is_visited routes c ≡ true
counted-visited routes c h = visited-any c routes ∙ by (list_any (λ d. d == c) (all_clients routes)) refl
  where
    by : (b : Bool) → list_any (λ d. d == c) (all_clients routes) ≡ b → list_any (λ d. d == c) (all_clients routes) ≡ true
    by true e = e
    by false e = let z = count_nothing (λ d. d == c) (all_clients routes) e in let k = total-count (λ d. d == c) routes in absurd (omega arith)

not_visited-none : (routes : Routes) (c : ℕ) → is_visited routes c ≡ false → total (λ d. d == c) routes ≡ 0
not_visited-none routes c h = total-count (λ d. d == c) routes ∙ count_nothing (λ d. d == c) (all_clients routes) (sym (visited-any c routes) ∙ h)

-- choosing the first least of a list that isn't empty
least-from : {X : Type 0} (Q : X → Type 0) (f : X → ℕ) (x : X) (xs : List X) → Q x → All Q xs → Q (first_least_from f x xs)
least-from Q f x [] q all = q
least-from Q f x (y ∷ xs) q all = least-from Q f (cond (nat_lt (f y) (f x)) y x) xs (by (nat_lt (f y) (f x)) (All-head Q y xs all)) (All-tail Q y xs all)
  where
    by : (b : Bool) → Q y → Q (cond b y x)
    by true r = r
    by false r = q

pub least-of : {X : Type 0} (Q : X → Type 0) (f : X → ℕ) (d : X) (xs : List X) → 1 ≤ length xs → All Q xs → Q (unwrap_or (first_least f xs) d)
least-of Q f d [] some all = absurd (omega arith)
least-of Q f d (x ∷ xs) some all = least-from Q f x xs (All-head Q x xs all) (All-tail Q x xs all)

all-flat_map : {X Y : Type 0} (Q : Y → Type 0) (g : X → List Y) (xs : List X) → All (λ x. All Q (g x)) xs → All Q (flat_map g xs)
all-flat_map Q g [] h = All-nil Q
all-flat_map Q g (x ∷ xs) h = All-append Q (g x) (flat_map g xs) (All-head (λ y. All Q (g y)) x xs h) (all-flat_map Q g xs (All-tail (λ y. All Q (g y)) x xs h))

module _ (p : Problem) (c : ℕ) where
  pub insertions-inserted : (routes : Routes) → All (IsInserted routes c) (insertions p routes c)
  insertions-inserted routes =
      all-flat_map (IsInserted routes c) (insertions_into routes c) (filter (is_used_or_least p routes) (places_of routes))
      (All-weaker (λ v. v < length routes) (λ v. All (IsInserted routes c) (insertions_into routes c v))
      (λ v there. All-map (IsInserted routes c) (λ i. set routes v (insert (list_at routes v) i (Client c))) (range_with_len 0 (length (list_at routes v) + 1))
      (All-range (λ i. IsInserted routes c (set routes v (insert (list_at routes v) i (Client c)))) 0 (length (list_at routes v) + 1)
      (λ i l u. record { vehicle = v; position = i; there = there; is = refl })))
      (filter (is_used_or_least p routes) (places_of routes))
      (All-filter (is_used_or_least p routes) (λ v. v < length routes) (places_of routes) (All-range (λ v. v < length routes) 0 (length routes) (λ v l u. omega arith))))

  first_fits : (visits : List Visit) (routes : Routes) → is_used_or_least p (visits ∷ routes) 0 ≡ true
  first_fits visits routes = by (is_used visits) refl
    where
      by : (b : Bool) → is_used visits ≡ b → is_used_or_least p (visits ∷ routes) 0 ≡ true
      by true e = rw e refl
      by false e = let same : (type_of p 0 == type_of p 0) ≡ true = eq-eqb (type_of p 0) (type_of p 0) refl in rw (e, same) refl

  pub insertions-some : (routes : Routes) → 1 ≤ length routes → 1 ≤ length (insertions p routes c)
  insertions-some [] h = absurd (omega arith)
  insertions-some (visits ∷ routes) h =
      let whole : Routes = visits ∷ routes in
      let rest : List ℕ = filter (is_used_or_least p whole) (range_with_len (0 + 1) (length routes)) in
      let first : filter (is_used_or_least p whole) (places_of whole) ≡ 0 ∷ rest = ap (λ (b : Bool). cond b (0 ∷ rest) rest) (first_fits visits routes) in
      let long = length-append (insertions_into whole c 0) (flat_map (insertions_into whole c) rest) in
      let some : length (insertions_into whole c 0) ≡ length visits + 1 = length-map-range_with_len _ 0 (length visits + 1) in
      let all : length (insertions p whole c) ≡ length (insertions_into whole c 0 ++ flat_map (insertions_into whole c) rest) = ap (λ (l : List ℕ). length (flat_map (insertions_into whole c) l)) first in
      omega arith

-- what follows from a test follows for some element
any_where : (f g : ℕ → Bool) (xs : List ℕ) → ((x : ℕ) → f x ≡ true → g x ≡ true) → list_any f xs ≡ true → list_any g xs ≡ true
any_where f g xs h some =
    let found = Any-from_list_any f xs some in
    list_any_at g xs found.0 found.1 found.2 (h (get_or xs found.0 found.1) (ap f found.3 ∙ found.4))

false_from : (b : Bool) → (b ≡ true → ⊥) → b ≡ false
false_from true h = absurd (h refl)
false_from false h = refl

not-true : (b : Bool) → not b ≡ true → b ≡ false
not-true true h = absurd (both_ways false refl h)
not-true false h = refl

true-not : (b : Bool) → b ≡ true → not b ≡ false
true-not true h = refl
true-not false h = absurd (both_ways false refl h)

and_false : (a b : Bool) → b ≡ false → (a && b) ≡ false
and_false true b h = h
and_false false b h = refl

module _ (p : Problem) (valid : IsValid p) where
  -- a client's group has it as a member
  own_member : (c group : ℕ) → is_client_place p c ≡ true → (client_at p c).group ≡ Some group → Contains (group_at p group) c
  own_member c group place e = (valid.grouped c group place).0 e

  member-visited : (routes : Routes) (c group : ℕ) → Contains (group_at p group) c → is_visited routes c ≡ true → list_any (is_visited routes) (group_at p group) ≡ true
  member-visited routes c group inside h = list_any_at (is_visited routes) (group_at p group) inside.0 c inside.1 (ap (is_visited routes) inside.2 ∙ h)

  -- the group of a client that is missing in it has no visited member
  leads-none : (routes : Routes) (c group : ℕ) → leads_unserved p routes c (Some group) ≡ true → list_any (is_visited routes) (group_at p group) ≡ false
  leads-none routes c group h =
      not-true (list_any (is_visited routes) (group_at p group))
      (and_parts (is_required_group p (group_at p group) && list_all (nat_le c) (group_at p group)) (not (list_any (is_visited routes) (group_at p group))) h).1

  -- a missing client isn't visited
  missing-unvisited : (routes : Routes) (c : ℕ) → is_client_place p c ≡ true → is_missing p routes c ≡ true → is_visited routes c ≡ false
  missing-unvisited routes c place h =
      ⊎_elim (λ r. not-true (is_visited routes c) (and_parts (is_required p c) (not (is_visited routes c)) r).1)
      (λ l. by (client_at p c).group refl l)
      (or_cases (is_required p c && not (is_visited routes c)) (leads_unserved p routes c (client_at p c).group) h)
    where
      by : (o : Option ℕ) → (client_at p c).group ≡ o → leads_unserved p routes c o ≡ true → is_visited routes c ≡ false
      by None e l = absurd (both_ways false refl l)
      by (Some group) e l =
          false_from (is_visited routes c)
          (λ v. both_ways (list_any (is_visited routes) (group_at p group)) (leads-none routes c group l) (member-visited routes c group (own_member c group place e) v))

  -- and no other client of its group is
  missing-alone : (routes : Routes) (c group : ℕ) → names_places p routes ≡ true → is_client_place p c ≡ true → is_missing p routes c ≡ true →
      is_of_group p group c ≡ true → total (is_of_group p group) routes ≡ 0
  missing-alone routes c group named place h own =
      total-count (is_of_group p group) routes ∙ count_nothing (is_of_group p group) (all_clients routes)
      (false_from (list_any (is_of_group p group) (all_clients routes)) (λ some. by (client_at p c).group refl own
      (or_cases (is_required p c && not (is_visited routes c)) (leads_unserved p routes c (client_at p c).group) h)
      (Any-from_list_any (is_of_group p group) (all_clients routes) some)))
    where
      visited-of : (x at : ℕ) → at < length (all_clients routes) → get_or (all_clients routes) at x ≡ x → is_of_group p group x ≡ true →
          list_any (is_visited routes) (group_at p group) ≡ true
      visited-of x at below e passes =
          member-visited routes x group
          (of_group-member p group valid x
          (ap (is_client_place p) (sym e) ∙ All-get_or (λ d. is_client_place p d ≡ true) (all_clients routes) at x below (AllPass-from_list_all (is_client_place p) (all_clients routes) (all-named p routes named)))
          passes)
          (visited-any x routes ∙ list_any_at (λ d. d == x) (all_clients routes) at x below (eq-eqb (get_or (all_clients routes) at x) x e))

      by : (o : Option ℕ) → (client_at p c).group ≡ o → is_same_group (Some group) o ≡ true →
          ((is_required p c && not (is_visited routes c)) ≡ true) ⊎ (leads_unserved p routes c o ≡ true) →
          (at : ℕ) × (x : ℕ) × (at < length (all_clients routes)) × (get_or (all_clients routes) at x ≡ x) × (is_of_group p group x ≡ true) → ⊥
      by None e same either found = both_ways false refl same
      by (Some g) e same (inl r) found =
          both_ways (is_none (client_at p c).group) (ap (λ (o : Option ℕ). is_none o) e)
          (and_parts (is_none (client_at p c).group) ((client_at p c).prize == 0) (and_parts (is_required p c) (not (is_visited routes c)) r).0).0
      by (Some g) e same (inr l) found =
          both_ways (list_any (is_visited routes) (group_at p group))
          (ap (λ k. list_any (is_visited routes) (group_at p k)) (eqb-true group g same) ∙ leads-none routes c g l)
          (visited-of found.1 found.0 found.2 found.3 found.4)

  -- a visited client isn't missing
  visited-not_missing : (routes : Routes) (c : ℕ) → is_client_place p c ≡ true → is_visited routes c ≡ true → is_missing p routes c ≡ false
  visited-not_missing routes c place h =
      ap₂ (λ (a b : Bool). a || b) (and_false (is_required p c) (not (is_visited routes c)) (true-not (is_visited routes c) h)) (by (client_at p c).group refl)
    where
      by : (o : Option ℕ) → (client_at p c).group ≡ o → leads_unserved p routes c o ≡ false
      by None e = refl
      by (Some group) e =
          and_false (is_required_group p (group_at p group) && list_all (nat_le c) (group_at p group)) (not (list_any (is_visited routes) (group_at p group)))
          (true-not (list_any (is_visited routes) (group_at p group)) (member-visited routes c group (own_member c group place e) h))

-- where more is visited, no more is missing
module _ (p : Problem) (routes more : Routes) (kept : (d : ℕ) → is_visited routes d ≡ true → is_visited more d ≡ true) where
  fewer : (a v w : Bool) → (v ≡ true → w ≡ true) → (a && not w) ≡ true → (a && not v) ≡ true
  fewer true true true k h = h
  fewer true true false k h = absurd (both_ways false refl (k refl))
  fewer true false w k h = refl
  fewer false v w k h = h

  leads-fewer : (c : ℕ) (o : Option ℕ) → leads_unserved p more c o ≡ true → leads_unserved p routes c o ≡ true
  leads-fewer c None h = h
  leads-fewer c (Some group) h =
      fewer (is_required_group p (group_at p group) && list_all (nat_le c) (group_at p group)) (list_any (is_visited routes) (group_at p group)) (list_any (is_visited more) (group_at p group))
      (any_where (is_visited routes) (is_visited more) (group_at p group) kept) h

  missing-fewer : (c : ℕ) → is_missing p routes c ≡ false → is_missing p more c ≡ false
  missing-fewer c h =
      false_from (is_missing p more c) (λ m. both_ways (is_missing p routes c) h
      (by (is_required p c && not (is_visited routes c)) (leads_unserved p routes c (client_at p c).group)
      (⊎_elim (λ r. inl (fewer (is_required p c) (is_visited routes c) (is_visited more c) (kept c) r)) (λ l. inr (leads-fewer c (client_at p c).group l))
      (or_cases (is_required p c && not (is_visited more c)) (leads_unserved p more c (client_at p c).group) m))))
    where
      by : (a b : Bool) → (a ≡ true) ⊎ (b ≡ true) → (a || b) ≡ true
      by true b h = refl
      by false b (inl h) = absurd (both_ways false refl h)
      by false b (inr h) = h

-- what inserting some clients makes of a plan
pub record IsCompletion (p : Problem) (routes made : Routes) (clients : List ℕ) : Type 0 where
  pub sound : IsSound p made
  pub kept : (d : ℕ) → is_visited routes d ≡ true → is_visited made d ≡ true
  pub none_missing : list_all (λ c. not (is_missing p made c)) clients ≡ true

module _ (p : Problem) (w : Weights) (valid : IsValid p) (some_vehicle : 1 ≤ vehicle_count p) where
  pub inserted-completion : (routes made : Routes) (c : ℕ) → IsSound p routes → is_client_place p c ≡ true → is_missing p routes c ≡ true → IsInserted routes c made →
      IsCompletion p routes made (c ∷ [])
  inserted-completion routes made c s place missing ins =
      subst (λ (r : Routes). IsCompletion p routes r (c ∷ [])) (sym ins.is) (record {
        sound = put-sound routes c ins.vehicle ins.position ins.there p s place none
            (λ group there own. missing-alone p valid routes c group s.named place missing own);
        kept = λ d h. counted-visited (put routes c ins.vehicle ins.position ins.there) d
            (let e = more (λ k. k == d) in let l = visited-counted routes d h in omega arith);
        none_missing = by (is_missing p (put routes c ins.vehicle ins.position ins.there) c)
            (visited-not_missing p valid (put routes c ins.vehicle ins.position ins.there) c place
            (counted-visited (put routes c ins.vehicle ins.position ins.there) c (let e = more (λ k. k == c) in here (c == c) (eq-eqb c c refl) e)));
      })
    where
      none : total (λ d. d == c) routes ≡ 0
      none = not_visited-none routes c (missing-unvisited p valid routes c place missing)

      more : (f : ℕ → Bool) → total f (put routes c ins.vehicle ins.position ins.there) ≡ total f routes + cond (f c) 1 0
      more f = total-put routes c ins.vehicle ins.position ins.there f

      here : (b : Bool) → b ≡ true → total (λ k. k == c) (put routes c ins.vehicle ins.position ins.there) ≡ total (λ k. k == c) routes + cond b 1 0 →
          1 ≤ total (λ k. k == c) (put routes c ins.vehicle ins.position ins.there)
      here true h e = omega arith
      here false h e = absurd (both_ways false refl h)

      by : (b : Bool) → b ≡ false → (not b && true) ≡ true
      by true h = absurd (both_ways true h refl)
      by false h = refl

  pub step-completion : (routes : Routes) (c : ℕ) → IsSound p routes → is_client_place p c ≡ true → IsCompletion p routes (completed_with p w routes c) (c ∷ [])
  step-completion routes c s place = by (is_missing p routes c) refl
    where
      by : (b : Bool) → is_missing p routes c ≡ b → IsCompletion p routes (cond b (unwrap_or (first_least (solution_cost p w) (insertions p routes c)) routes) routes) (c ∷ [])
      by true e =
          inserted-completion routes (unwrap_or (first_least (solution_cost p w) (insertions p routes c)) routes) c s place e
          (least-of (IsInserted routes c) (solution_cost p w) routes (insertions p routes c)
          (insertions-some p c routes (let l = s.one_list_each in omega arith)) (insertions-inserted p c routes))
      by false e = record { sound = s; kept = λ d h. h; none_missing = rw e refl }

  pub fold-completion : (clients : List ℕ) (routes : Routes) → IsSound p routes → list_all (is_client_place p) clients ≡ true →
      IsCompletion p routes (fold (completed_with p w) routes clients) clients
  fold-completion [] routes s all = record { sound = s; kept = λ d h. h; none_missing = refl }
  fold-completion (c ∷ clients) routes s all =
      let both = and_parts (is_client_place p c) (list_all (is_client_place p) clients) all in
      let first = step-completion routes c s both.0 in
      let rest = fold-completion clients (completed_with p w routes c) first.sound both.1 in
      let met : is_missing p (completed_with p w routes c) c ≡ false =
      not-true (is_missing p (completed_with p w routes c) c) (and_parts (not (is_missing p (completed_with p w routes c) c)) true first.none_missing).0 in
      let still = missing-fewer p (completed_with p w routes c) (fold (completed_with p w) (completed_with p w routes c) clients) rest.kept c met in
      record {
        sound = rest.sound;
        kept = λ d h. rest.kept d (first.kept d h);
        none_missing = and_from (not (is_missing p (fold (completed_with p w) (completed_with p w routes c) clients) c)) _
            (ap not still) rest.none_missing;
      }
