-- Positions of clients, list after list, and what they are where one list changes.
use Rattle.std.proofs.Common.{◌≡◌, ℕ, zero, suc, ◌+◌, ◌<◌, ◌≤◌, Bool, true, false, cond, ◌||◌, List, [], ◌∷◌, length, get_or, set, refl, sym, ◌∙◌, ap, arith, Option, Some, None}
use Rattle.std.specs.Prelude.{is_some, option_and_then, option_map}
use Rattle.std.specs.List.{position_from}
use Rattle.std.proofs.lemmas.List.Sums.{sum_by-cons}
use Rattle.problem_data.specs.declared.visit.Visit.{Visit}
use Rattle.routing_model.specs.Routes.{Routes, has_client, is_visit_of, list_at, visit_count}
use Rattle.search_model.specs.Edits.{position_of}
use Rattle.search_model.proofs.ClientPlaces.{list-read, times-none, times-some, times_in}
use Rattle.gain_model.proofs.ListsOfPlans.{list_at-set, plan_counts}
use Rattle.plan_tables.specs.inside.Marks.{first_of_two, position_among, position_in}

-- a client is in a list where it has a place there
placed : (client start : ℕ) (visits : List Visit) → has_client client visits ≡ is_some (position_from (is_visit_of client) start visits)
placed client start [] = refl
placed client start (x ∷ visits) = by (is_visit_of client x) (placed client (start + 1) visits)
  where
    by : (b : Bool) → has_client client visits ≡ is_some (position_from (is_visit_of client) (start + 1) visits) →
        (b || has_client client visits) ≡ is_some (cond b (Some start) (position_from (is_visit_of client) (start + 1) visits))
    by true e = refl
    by false e = e

module _ (list : ℕ → List Visit) (client : ℕ) where
  abbrev within : ℕ → Option (ℕ × ℕ)
  within v = option_map (λ place. (v, place + 1)) (position_from (is_visit_of client) 0 (list v))

  among : (start : ℕ) (routes : Routes) → ((k : ℕ) → k < length routes → list (start + k) ≡ get_or routes k []) →
      option_and_then within (position_from (has_client client) start routes) ≡ position_among client start routes
  among start [] are = refl
  among start (visits ∷ rest) are =
      by (position_from (is_visit_of client) 0 visits) (has_client client visits) refl (placed client 0 visits)
      (among (start + 1) rest (λ k h. let e : start + 1 + k ≡ start + suc k = omega arith in ap list e ∙ are (suc k) (omega (arith, h))))
    where
      here : list start ≡ visits
      here = let e : start ≡ start + 0 = omega arith in ap list e ∙ are 0 (omega arith)

      by : (o : Option ℕ) (b : Bool) → position_from (is_visit_of client) 0 visits ≡ o → b ≡ is_some o →
          option_and_then within (position_from (has_client client) (start + 1) rest) ≡ position_among client (start + 1) rest →
          option_and_then within (cond b (Some start) (position_from (has_client client) (start + 1) rest)) ≡ first_of_two (option_map (λ place. (start, place + 1)) o) (position_among client (start + 1) rest)
      by (Some k) true e t later = ap (λ (xs : List Visit). option_map (λ place. (start, place + 1)) (position_from (is_visit_of client) 0 xs)) here ∙ ap (option_map (λ place. (start, place + 1))) e
      by (Some k) false e t later = absurd (let never : ⊥ = cc in never)
      by None true e t later = absurd (let never : ⊥ = cc in never)
      by None false e t later = later

pub position-among : (client : ℕ) (routes : Routes) → position_of routes client ≡ position_among client 0 routes
position-among client routes = among (list_at routes) client 0 routes (λ k t. let e : 0 + k ≡ k = omega arith in ap (list_at routes) e ∙ list-read routes k)

-- a client that isn't in a list has no position there
not_some : (o : Option ℕ) → is_some o ≡ false → o ≡ None
not_some None h = refl
not_some (Some k) h = absurd (let never : ⊥ = cc in never)

none_in : (vehicle client : ℕ) (visits : List Visit) → has_client client visits ≡ false → position_in vehicle client 0 visits ≡ None
none_in vehicle client visits h = ap (option_map (λ place. (vehicle, place + 1))) (not_some (position_from (is_visit_of client) 0 visits) (sym (placed client 0 visits) ∙ h))

counts-cons : (client : ℕ) (visits : List Visit) (rest : Routes) → visit_count (visits ∷ rest) client ≡ times_in client visits + visit_count rest client
counts-cons client visits rest = sum_by-cons (times_in client) visits rest

none_among : (client start : ℕ) (routes : Routes) → visit_count routes client ≡ 0 → position_among client start routes ≡ None
none_among client start [] h = refl
none_among client start (visits ∷ rest) h =
    let sum = counts-cons client visits rest in
    ap (λ (o : Option (ℕ × ℕ)). first_of_two o (position_among client (start + 1) rest)) (none_in start client visits (times-none client visits (omega arith)))
    ∙ none_among client (start + 1) rest (omega arith)

-- a list whose visits are taken out
pub left-among : (client start : ℕ) (routes : Routes) (k : ℕ) → visit_count routes client ≤ 1 →
    position_among client start (set routes k []) ≡ cond (has_client client (list_at routes k)) None (position_among client start routes)
left-among client start [] k once = refl
left-among client start (visits ∷ rest) zero once = by (has_client client visits) refl
  where
    by : (b : Bool) → has_client client visits ≡ b → position_among client (start + 1) rest ≡ cond b None (first_of_two (position_in start client 0 visits) (position_among client (start + 1) rest))
    by true h = let sum = counts-cons client visits rest in let some = times-some client visits h in none_among client (start + 1) rest (omega arith)
    by false h = sym (ap (λ (o : Option (ℕ × ℕ)). first_of_two o (position_among client (start + 1) rest)) (none_in start client visits h))
left-among client start (visits ∷ rest) (suc k) once =
    ap (first_of_two (position_in start client 0 visits)) (left-among client (start + 1) rest k (let sum = counts-cons client visits rest in omega arith))
    ∙ by (has_client client (list_at rest k)) refl
  where
    by : (b : Bool) → has_client client (list_at rest k) ≡ b →
        first_of_two (position_in start client 0 visits) (cond b None (position_among client (start + 1) rest)) ≡ cond b None (first_of_two (position_in start client 0 visits) (position_among client (start + 1) rest))
    by true h =
        let sum = counts-cons client visits rest in
        let some = plan_counts client rest k h in
        ap (λ (o : Option (ℕ × ℕ)). first_of_two o None) (none_in start client visits (times-none client visits (omega arith)))
    by false h = refl

-- two positions of which one is none, in either order
first_none : (a b other : Option (ℕ × ℕ)) → a ≡ None → first_of_two a (first_of_two b other) ≡ first_of_two b (first_of_two a other)
first_none a b other e =
    ap (λ (o : Option (ℕ × ℕ)). first_of_two o (first_of_two b other)) e ∙ sym (ap (λ (o : Option (ℕ × ℕ)). first_of_two b (first_of_two o other)) e)

-- an empty list that gets some visits
pub entered-among : (client start : ℕ) (routes : Routes) (k : ℕ) (visits : List Visit) → k < length routes → list_at routes k ≡ [] → visit_count (set routes k visits) client ≤ 1 →
    position_among client start (set routes k visits) ≡ first_of_two (position_in (start + k) client 0 visits) (position_among client start routes)
entered-among client start [] k visits near empty once = absurd (omega (arith, near))
entered-among client start (xs ∷ rest) zero visits near empty once =
    let same : start ≡ start + 0 = omega arith in
    ap (λ (v : ℕ). first_of_two (position_in v client 0 visits) (position_among client (start + 1) rest)) same
    ∙ ap (λ (ys : List Visit). first_of_two (position_in (start + 0) client 0 visits) (first_of_two (position_in start client 0 ys) (position_among client (start + 1) rest))) (sym empty)
entered-among client start (xs ∷ rest) (suc k) visits near empty once =
    let sum = counts-cons client xs (set rest k visits) in
    let next : start + 1 + k ≡ start + suc k = omega arith in
    ap (first_of_two (position_in start client 0 xs)) (entered-among client (start + 1) rest k visits (omega arith) empty (omega arith))
    ∙ turned (has_client client visits) refl
    ∙ ap (λ (v : ℕ). first_of_two (position_in v client 0 visits) (first_of_two (position_in start client 0 xs) (position_among client (start + 1) rest))) next
  where
    turned : (b : Bool) → has_client client visits ≡ b →
        first_of_two (position_in start client 0 xs) (first_of_two (position_in (start + 1 + k) client 0 visits) (position_among client (start + 1) rest))
        ≡ first_of_two (position_in (start + 1 + k) client 0 visits) (first_of_two (position_in start client 0 xs) (position_among client (start + 1) rest))
    turned true h =
        let sum = counts-cons client xs (set rest k visits) in
        let some = plan_counts client (set rest k visits) k (ap (has_client client) (list_at-set rest k visits (omega arith)) ∙ h) in
        first_none _ _ _ (none_in start client xs (times-none client xs (omega arith)))
    turned false h = sym (first_none _ _ _ (none_in (start + 1 + k) client visits h))
