-- The least unused vehicle of a type is the first that is met.
use Rattle.std.proofs.Common.{◌≡◌, ◌≢◌, ◌∙◌, ℕ, zero, suc, ◌+◌, ◌<◌, ◌==◌, ◌&&◌, ◌||◌, Bool, true, false, cond, not, List, [], ◌∷◌, ◌++◌, All, Option, Some, length, get_or, set, filter, find, ap, ap₂, arith, refl, subst, sym}
use Rattle.std.specs.Prelude.{nat_eq, option_map}
use Rattle.std.specs.List.{enumerate_from, list_any, range_with_len}
use Rattle.std.proofs.lemmas.Bool.Decides.{nat_tests}
use Rattle.std.proofs.lemmas.List.{get_or-set_other, get_or-set_same, length-set}
use Rattle.std.proofs.lemmas.List.{append-nil}
use Rattle.std.proofs.lemmas.List.Elements.{All-filter, filter-append}
use Rattle.std.proofs.lemmas.List.Folds.{list_any-append}
use Rattle.std.proofs.lemmas.Option.{unwrap_or-slice_get}
use Rattle.problem_data.specs.declared.problem.Problem.{Problem}
use Rattle.problem_data.specs.declared.visit.Visit.{Visit}
use Rattle.problem_data.specs.Places.{type_of}
use Rattle.routing_model.specs.Routes.{Routes, is_used, list_at}
use Rattle.search_model.specs.Edits.{unused_vehicle}
use Rattle.search_model.specs.RouteMoves.{is_used_or_least, is_vehicle}
use Rattle.list_words.specs.Lists.{places_of}
use Rattle.random_model.proofs.RandomOrders.{All-range}
use Rattle.route_rings.proofs.Counting.{range-next}
use Rattle.least_insertions.specs.inside.Types.{AreMet, is_unused_of}

apart : (a k : ℕ) → (a == a + suc k) ≡ false
apart a k = grind (arith, nat_tests)

self : (a : ℕ) → (a == a) ≡ true
self a = grind (arith, nat_tests)

module _ (p : Problem) (type : ℕ) (left : ℕ → Bool) where
  abbrev is_left : ℕ × List Visit → Bool
  is_left e = (type_of p e.0 == type) && not (is_used e.1)

  abbrev first_met : ℕ → Routes → Option ℕ
  first_met start routes = option_map (λ (e : ℕ × List Visit). e.0) (find is_left (enumerate_from start routes))

  -- a vehicle is the first one left where none before it is
  first-left : (start k n : ℕ) (routes : Routes) → ((j : ℕ) → j < length routes → is_left (start + j, get_or routes j []) ≡ left (start + j)) → k < length routes → start + k ≡ n → left n ≡ true →
      is_vehicle n (first_met start routes) ≡ not (list_any left (range_with_len start k))
  first-left start k n [] are inside at is = absurd (omega arith)
  first-left start zero n (xs ∷ routes) are inside at is =
      let e : start + 0 ≡ start = omega arith in
      let here : is_left (start, xs) ≡ true =
      ap (λ (m : ℕ). is_left (m, xs)) (sym e) ∙ (are 0 inside ∙ (ap left at ∙ is)) in
      ap (λ (b : Bool). is_vehicle n (option_map (λ (e : ℕ × List Visit). e.0) (cond b (Some (start, xs)) (find is_left (enumerate_from (start + 1) routes))))) here
      ∙ (ap (λ (m : ℕ). start == m) (sym at ∙ e) ∙ self start)
  first-left start (suc k) n (xs ∷ routes) are inside at is =
      let e : start + 0 ≡ start = omega arith in
      let same : is_left (start, xs) ≡ left start = ap (λ (m : ℕ). is_left (m, xs)) (sym e) ∙ (are 0 (omega arith) ∙ ap left e) in
      by (left start) same
      (first-left (start + 1) k n routes (λ j h. let f : start + 1 + j ≡ start + suc j = omega arith in
      subst (λ (m : ℕ). is_left (m, get_or routes j []) ≡ left m) (sym f) (are (suc j) (omega (arith, h)))) (omega arith) (omega arith) is)
    where
      by : (b : Bool) → is_left (start, xs) ≡ b → is_vehicle n (first_met (start + 1) routes) ≡ not (list_any left (range_with_len (start + 1) k)) →
          is_vehicle n (option_map (λ (e : ℕ × List Visit). e.0) (cond (is_left (start, xs)) (Some (start, xs)) (find is_left (enumerate_from (start + 1) routes))))
          ≡ not (b || list_any left (range_with_len (start + 1) k))
      by true e later =
          ap (λ (b : Bool). is_vehicle n (option_map (λ (e : ℕ × List Visit). e.0) (cond b (Some (start, xs)) (find is_left (enumerate_from (start + 1) routes))))) e
          ∙ (ap (λ (m : ℕ). start == m) (sym at) ∙ apart start k)
      by false e later = ap (λ (b : Bool). is_vehicle n (option_map (λ (e : ℕ × List Visit). e.0) (cond b (Some (start, xs)) (find is_left (enumerate_from (start + 1) routes))))) e ∙ later

module _ (p : Problem) (routes : Routes) where
  own : (k : ℕ) → is_used (list_at routes k) ≡ false → is_unused_of p routes (type_of p k) k ≡ true
  own k e = ap₂ (λ (a b : Bool). a && not b) (self (type_of p k)) e

  -- an unused vehicle is the least one of its type where none of the type was met
  pub least-is_first : (k : ℕ) → k < length routes → is_used (list_at routes k) ≡ false → is_used_or_least p routes k ≡ not (list_any (is_unused_of p routes (type_of p k)) (range_with_len 0 k))
  least-is_first k inside e =
      ap (λ (b : Bool). b || is_vehicle k (unused_vehicle p routes (type_of p k))) e
      ∙ first-left p (type_of p k) (is_unused_of p routes (type_of p k)) 0 k k routes
      (λ j h. let z : 0 + j ≡ j = omega arith in
      subst (λ (m : ℕ). ((type_of p m == type_of p k) && not (is_used (get_or routes j []))) ≡ is_unused_of p routes (type_of p k) m) (sym z)
      (ap (λ (xs : List Visit). (type_of p j == type_of p k) && not (is_used xs)) (sym (unwrap_or-slice_get routes j []))))
      inside (omega arith) (own k e)

  pub used-fits : (k : ℕ) → is_used (list_at routes k) ≡ true → is_used_or_least p routes k ≡ true
  used-fits k e = ap (λ (b : Bool). b || is_vehicle k (unused_vehicle p routes (type_of p k))) e

  any-next : (type k : ℕ) → list_any (is_unused_of p routes type) (range_with_len 0 (k + 1)) ≡ (list_any (is_unused_of p routes type) (range_with_len 0 k) || is_unused_of p routes type k)
  any-next type k =
      ap (list_any (is_unused_of p routes type)) (range-next 0 k k (omega arith))
      ∙ (list_any-append (is_unused_of p routes type) (range_with_len 0 k) (k ∷ [])
      ∙ ap (λ (b : Bool). list_any (is_unused_of p routes type) (range_with_len 0 k) || b) (or-false (is_unused_of p routes type k)))
    where
      or-false : (b : Bool) → (b || false) ≡ b
      or-false true = refl
      or-false false = refl

  -- a used vehicle leaves the marks
  pub met-used : (k : ℕ) (met : List Bool) → is_used (list_at routes k) ≡ true → AreMet p routes k met → AreMet p routes (k + 1) met
  met-used k met e are type inside =
      are type inside
      ∙ (sym (or-false (list_any (is_unused_of p routes type) (range_with_len 0 k)))
      ∙ (ap (λ (b : Bool). list_any (is_unused_of p routes type) (range_with_len 0 k) || b) (sym (gone (type_of p k == type)))
      ∙ sym (any-next type k)))
    where
      or-false : (b : Bool) → (b || false) ≡ b
      or-false true = refl
      or-false false = refl

      gone : (b : Bool) → (b && not (is_used (list_at routes k))) ≡ false
      gone true = ap not e
      gone false = refl

  -- an unused one marks its type
  pub met-unused : (k : ℕ) (met : List Bool) → is_used (list_at routes k) ≡ false → AreMet p routes k met → AreMet p routes (k + 1) (set met (type_of p k) true)
  met-unused k met e are type inside = by (nat_eq (type_of p k) type) refl
    where
      long : type < length met
      long = let same = length-set met (type_of p k) true in omega arith

      same : (m n : ℕ) → nat_eq m n ≡ true → m ≡ n
      same m n h = grind (arith, nat_tests)

      other : (m n : ℕ) → nat_eq m n ≡ false → n ≢ m
      other m n h k = grind (arith, nat_tests)

      here : (b : Bool) → nat_eq (type_of p k) type ≡ b → is_unused_of p routes type k ≡ b
      here b h = ap₂ (λ (a c : Bool). a && not c) h e ∙ and-true b
        where
          and-true : (b : Bool) → (b && true) ≡ b
          and-true true = refl
          and-true false = refl

      or-true : (b : Bool) → (b || true) ≡ true
      or-true true = refl
      or-true false = refl

      or-false : (b : Bool) → (b || false) ≡ b
      or-false true = refl
      or-false false = refl

      by : (b : Bool) → nat_eq (type_of p k) type ≡ b → get_or (set met (type_of p k) true) type false ≡ list_any (is_unused_of p routes type) (range_with_len 0 (k + 1))
      by true h =
          ap (λ (i : ℕ). get_or (set met i true) type false) (same (type_of p k) type h)
          ∙ (get_or-set_same met type true false long
          ∙ (sym (or-true (list_any (is_unused_of p routes type) (range_with_len 0 k)))
          ∙ (ap (λ (b : Bool). list_any (is_unused_of p routes type) (range_with_len 0 k) || b) (sym (here true h)) ∙ sym (any-next type k))))
      by false h =
          get_or-set_other met (type_of p k) type true false (other (type_of p k) type h)
          ∙ (are type long
          ∙ (sym (or-false (list_any (is_unused_of p routes type) (range_with_len 0 k)))
          ∙ (ap (λ (b : Bool). list_any (is_unused_of p routes type) (range_with_len 0 k) || b) (sym (here false h)) ∙ sym (any-next type k))))

-- the numbers that pass a test, one number more
module _ (test : ℕ → Bool) (k : ℕ) where
  next : (b : Bool) → test k ≡ b → filter test (range_with_len 0 (k + 1)) ≡ filter test (range_with_len 0 k) ++ cond b (k ∷ []) []
  next b e =
      ap (filter test) (range-next 0 k k (omega arith))
      ∙ (filter-append test (range_with_len 0 k) (k ∷ []) ∙ ap (λ (t : Bool). filter test (range_with_len 0 k) ++ cond t (k ∷ []) []) e)

  pub passed-next : test k ≡ true → filter test (range_with_len 0 k) ++ k ∷ [] ≡ filter test (range_with_len 0 (k + 1))
  passed-next e = sym (next true e)

  pub passed-same : test k ≡ false → filter test (range_with_len 0 k) ≡ filter test (range_with_len 0 (k + 1))
  passed-same e = sym (next false e ∙ append-nil (filter test (range_with_len 0 k)))

-- the vehicles to which a client may go are there
pub vehicles-inside : (p : Problem) (routes : Routes) → All (λ v. v < length routes) (filter (is_used_or_least p routes) (places_of routes))
vehicles-inside p routes =
    All-filter (is_used_or_least p routes) (λ v. v < length routes) (places_of routes) (All-range (λ v. v < length routes) 0 (length routes) (λ v l u. omega arith))
