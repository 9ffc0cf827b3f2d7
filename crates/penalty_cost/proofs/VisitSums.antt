-- Sums over all visits of a plan are sums over its clients.
use Rattle.std.proofs.Common.{◌≡◌, ℕ, zero, suc, ◌+◌, ◌*◌, ◌<◌, ◌≤◌, Bool, true, false, ◌&&◌, ◌||◌, ◌⊎◌, inl, inr, cond, List, [], ◌∷◌, length, refl, sym, ◌∙◌, ap, ap₂, arith}
use Rattle.std.specs.Prelude.{◌==◌, count_by, filter, nat_le, nat_lt, not, sum_by}
use Rattle.std.specs.List.{list_all, list_any, range_with_len}
use Rattle.std.proofs.lemmas.Bool.Decides.{nat_tests}
use Rattle.std.proofs.lemmas.List.Sums.{sum_by-cons}
use Rattle.problem_data.specs.declared.problem.Problem.{Problem}
use Rattle.problem_data.specs.declared.visit.Visit.{Visit}
use Rattle.problem_data.specs.declared.visit.Visit.TheVariants.{Client, Reload}
use Rattle.problem_data.specs.Places.{client_places, depot_count}
use Rattle.routing_model.specs.Lawful.{names_place, names_places, visits_at_most_once}
use Rattle.routing_model.specs.Routes.{Routes, has_client, is_visit_of, is_visited, visit_count}
use Rattle.penalty_cost.specs.inside.VisitSums.{at_plan, at_visit, at_visits}
use Rattle.penalty_cost.proofs.FleetSums.{sum_by-filter}

and-first : (a b : Bool) → (a && b) ≡ true → a ≡ true
and-first true b h = refl
and-first false b h = h

and-second : (a b : Bool) → (a && b) ≡ true → b ≡ true
and-second true b h = h
and-second false b h = cc

equal_yes : (m n : ℕ) → m ≡ n → (m == n) ≡ true
equal_yes m n h = grind (arith, nat_tests)

equal_no : (m n : ℕ) → n + 1 ≤ m → (m == n) ≡ false
equal_no m n h = grind (arith, nat_tests)

place_low : (depots place clients : ℕ) → (nat_le depots place && nat_lt place (depots + clients)) ≡ true → depots ≤ place
place_low depots place clients h = grind (arith, nat_tests)

place_high : (depots place clients : ℕ) → (nat_le depots place && nat_lt place (depots + clients)) ≡ true → place < depots + clients
place_high depots place clients h = grind (arith, nat_tests)

one_more : (b : Bool) (n m : ℕ) → (cond b 1 0 + n) * m ≡ cond b m 0 + n * m
one_more true n m = grind arith
one_more false n m = grind arith

pub shared : (a b m : ℕ) → (a + b) * m ≡ a * m + b * m
shared a b m = grind arith

pub either : (b : Bool) (m : ℕ) → cond (not b) m 0 + cond b m 0 ≡ m
either true m = omega arith
either false m = omega arith

one_of : (b any : Bool) (whole rest : ℕ) → whole ≡ cond b 1 0 + rest → (any ≡ true → 1 ≤ rest) × (any ≡ false → rest ≡ 0) →
    ((b || any) ≡ true → 1 ≤ whole) × ((b || any) ≡ false → whole ≡ 0)
one_of true any whole rest s h = ((λ e. omega arith), (λ e. cc))
one_of false any whole rest s h = ((λ e. let k = h.0 e in omega arith), (λ e. let k = h.1 e in omega arith))

some_of : (a b : Bool) (whole first rest : ℕ) → whole ≡ first + rest → (a ≡ true → 1 ≤ first) × (a ≡ false → first ≡ 0) → (b ≡ true → 1 ≤ rest) × (b ≡ false → rest ≡ 0) →
    ((a || b) ≡ true → 1 ≤ whole) × ((a || b) ≡ false → whole ≡ 0)
some_of true b whole first rest s h k = ((λ e. let l = h.0 refl in omega arith), (λ e. cc))
some_of false b whole first rest s h k = ((λ e. let l = k.0 e in omega arith), (λ e. let l = k.1 e in let m = h.1 refl in omega arith))

counts : (b : Bool) (n m : ℕ) → nat_le n 1 ≡ true → (b ≡ true → 1 ≤ n) × (b ≡ false → n ≡ 0) → n * m ≡ cond b m 0
counts true n m once h = let k = h.0 refl in let one : n ≡ 1 = grind (arith, nat_tests) in ap (λ (k : ℕ). k * m) one ∙ omega arith
counts false n m once h = ap (λ (k : ℕ). k * m) (h.1 refl) ∙ omega arith

pub sum_by-same : {X : Type 0} (f g : X → ℕ) (xs : List X) → ((x : X) → f x ≡ g x) → sum_by f xs ≡ sum_by g xs
sum_by-same f g [] same = refl
sum_by-same f g (x ∷ xs) same = sum_by-cons f x xs ∙ ap₂ (λ (m n : ℕ). m + n) (same x) (sum_by-same f g xs same) ∙ sym (sum_by-cons g x xs)

pub sum_by-plus : {X : Type 0} (f g : X → ℕ) (xs : List X) → sum_by (λ x. f x + g x) xs ≡ sum_by f xs + sum_by g xs
sum_by-plus f g [] = refl
sum_by-plus f g (x ∷ xs) =
    let a = sum_by-cons (λ y. f y + g y) x xs in
    let b = sum_by-cons f x xs in
    let c = sum_by-cons g x xs in
    let d = sum_by-plus f g xs in
    omega arith

pub sum_by-none : {X : Type 0} (f : X → ℕ) (xs : List X) → ((x : X) → f x ≡ 0) → sum_by f xs ≡ 0
sum_by-none f [] none = refl
sum_by-none f (x ∷ xs) none = let a = sum_by-cons f x xs in let b = none x in let c = sum_by-none f xs none in omega arith

sum_by-agree : {X : Type 0} (test : X → Bool) (f g : X → ℕ) (xs : List X) → list_all test xs ≡ true → ((x : X) → test x ≡ true → f x ≡ g x) → sum_by f xs ≡ sum_by g xs
sum_by-agree test f g [] all same = refl
sum_by-agree test f g (x ∷ xs) all same =
    let first = and-first (test x) (list_all test xs) all in
    let rest = and-second (test x) (list_all test xs) all in
    sum_by-cons f x xs ∙ ap₂ (λ (m n : ℕ). m + n) (same x first) (sum_by-agree test f g xs rest same) ∙ sym (sum_by-cons g x xs)

-- the client's part of a sum over a range of places
beyond : (g : ℕ → ℕ) (a n place : ℕ) → place < a → sum_by (λ c. cond (place == c) (g c) 0) (range_with_len a n) ≡ 0
beyond g a zero place h = refl
beyond g a (suc n) place h =
    let e : cond (place == a) (g a) 0 ≡ 0 = grind (arith, nat_tests) in
    let k = beyond g (a + 1) n place (omega arith) in
    let s = sum_by-cons (λ c. cond (place == c) (g c) 0) a (range_with_len (a + 1) n) in
    omega arith

here_or_later : (a place : ℕ) → a ≤ place → (place ≡ a) ⊎ (a + 1 ≤ place)
here_or_later a place h = grind arith

within : (g : ℕ → ℕ) (a n place : ℕ) → a ≤ place → place < a + n → sum_by (λ c. cond (place == c) (g c) 0) (range_with_len a n) ≡ g place
within g a zero place low high = absurd (omega arith)
within g a (suc n) place low high =
    let s = sum_by-cons (λ c. cond (place == c) (g c) 0) a (range_with_len (a + 1) n) in
    elim (here_or_later a place low) as (λ _. sum_by (λ c. cond (place == c) (g c) 0) (range_with_len a (suc n)) ≡ g place) [
      | inl here ↦
          let same : g place ≡ g a = ap g here in
          let e : cond (place == a) (g a) 0 ≡ g a = ap (λ (b : Bool). cond b (g a) 0) (equal_yes place a here) in
          let k = beyond g (a + 1) n place (omega arith) in
          omega arith
      | inr later ↦
          let e : cond (place == a) (g a) 0 ≡ 0 = ap (λ (b : Bool). cond b (g a) 0) (equal_no place a later) in
          let k = within g (a + 1) n place later (omega arith) in
          omega arith
    ]

-- what a visit adds is what its client adds
visit-exchanged : (p : Problem) (g : ℕ → ℕ) (visit : Visit) → names_place p visit ≡ true → sum_by (λ c. cond (is_visit_of c visit) (g c) 0) (client_places p) ≡ at_visit g visit
visit-exchanged p g (Client place) named = within g (depot_count p) (length p.clients) place (place_low (depot_count p) place _ named) (place_high (depot_count p) place _ named)
visit-exchanged p g (Reload depot) named = sum_by-none (λ c. 0) (client_places p) (λ c. refl)

-- what the visits of a list add is what each client adds as often as it is visited there
pub visits-exchanged : (p : Problem) (g : ℕ → ℕ) (visits : List Visit) → list_all (names_place p) visits ≡ true →
    sum_by (λ c. count_by (is_visit_of c) visits * g c) (client_places p) ≡ at_visits g visits
visits-exchanged p g [] named = sum_by-none (λ c. 0 * g c) (client_places p) (λ c. omega arith)
visits-exchanged p g (visit ∷ rest) named =
    sum_by-same (λ c. count_by (is_visit_of c) (visit ∷ rest) * g c) (λ c. cond (is_visit_of c visit) (g c) 0 + count_by (is_visit_of c) rest * g c) (client_places p)
    (λ c. ap (λ (n : ℕ). n * g c) (sum_by-cons (λ v. cond (is_visit_of c v) 1 0) visit rest) ∙ one_more (is_visit_of c visit) (count_by (is_visit_of c) rest) (g c))
    ∙ sum_by-plus (λ c. cond (is_visit_of c visit) (g c) 0) (λ c. count_by (is_visit_of c) rest * g c) (client_places p)
    ∙ ap₂ (λ (m n : ℕ). m + n) (visit-exchanged p g visit (and-first (names_place p visit) (list_all (names_place p) rest) named))
    (visits-exchanged p g rest (and-second (names_place p visit) (list_all (names_place p) rest) named))
    ∙ sym (sum_by-cons (at_visit g) visit rest)

-- likewise in a plan
pub plan-exchanged : (p : Problem) (g : ℕ → ℕ) (routes : Routes) → names_places p routes ≡ true → sum_by (λ c. visit_count routes c * g c) (client_places p) ≡ at_plan g routes
plan-exchanged p g [] named = sum_by-none (λ c. 0 * g c) (client_places p) (λ c. omega arith)
plan-exchanged p g (visits ∷ rest) named =
    sum_by-same (λ c. visit_count (visits ∷ rest) c * g c) (λ c. count_by (is_visit_of c) visits * g c + visit_count rest c * g c) (client_places p)
    (λ c. ap (λ (n : ℕ). n * g c) (sum_by-cons (λ (list : List Visit). count_by (is_visit_of c) list) visits rest) ∙ shared (count_by (is_visit_of c) visits) (visit_count rest c) (g c))
    ∙ sum_by-plus (λ c. count_by (is_visit_of c) visits * g c) (λ c. visit_count rest c * g c) (client_places p)
    ∙ ap₂ (λ (m n : ℕ). m + n) (visits-exchanged p g visits (and-first (list_all (names_place p) visits) (names_places p rest) named))
    (plan-exchanged p g rest (and-second (list_all (names_place p) visits) (names_places p rest) named))
    ∙ sym (sum_by-cons (at_visits g) visits rest)

-- a test that some item passes, and how many pass
any-counted : {X : Type 0} (test : X → Bool) (xs : List X) → (list_any test xs ≡ true → 1 ≤ count_by test xs) × (list_any test xs ≡ false → count_by test xs ≡ 0)
any-counted test [] = ((λ e. cc), (λ e. refl))
any-counted test (x ∷ xs) =
    let s = sum_by-cons (λ y. cond (test y) 1 0) x xs in
    one_of (test x) (list_any test xs) (count_by test (x ∷ xs)) (count_by test xs) s (any-counted test xs)

pub visited-counted : (routes : Routes) (c : ℕ) → (is_visited routes c ≡ true → 1 ≤ visit_count routes c) × (is_visited routes c ≡ false → visit_count routes c ≡ 0)
visited-counted [] c = ((λ e. cc), (λ e. refl))
visited-counted (visits ∷ rest) c =
    let s = sum_by-cons (λ (list : List Visit). count_by (is_visit_of c) list) visits rest in
    some_of (has_client c visits) (is_visited rest c) (visit_count (visits ∷ rest) c) (count_by (is_visit_of c) visits) (visit_count rest c) s
    (any-counted (is_visit_of c) visits) (visited-counted rest c)

-- where no client stands twice, each visited one counts once
pub visited-once : (routes : Routes) (c m : ℕ) → nat_le (visit_count routes c) 1 ≡ true → visit_count routes c * m ≡ cond (is_visited routes c) m 0
visited-once routes c m once = counts (is_visited routes c) (visit_count routes c) m once (visited-counted routes c)

visited-sum : (p : Problem) (g : ℕ → ℕ) (routes : Routes) → names_places p routes ≡ true → visits_at_most_once p routes ≡ true →
    sum_by (λ c. cond (is_visited routes c) (g c) 0) (client_places p) ≡ at_plan g routes
visited-sum p g routes named once =
    sym (sum_by-agree (λ c. nat_le (visit_count routes c) 1) (λ c. visit_count routes c * g c) (λ c. cond (is_visited routes c) (g c) 0) (client_places p) once
    (λ c h. visited-once routes c (g c) h))
    ∙ plan-exchanged p g routes named

-- what the visited clients add and what the others add is what all add
pub missed-and_visited : (p : Problem) (g : ℕ → ℕ) (routes : Routes) → names_places p routes ≡ true → visits_at_most_once p routes ≡ true →
    sum_by g (filter (λ c. not (is_visited routes c)) (client_places p)) + at_plan g routes ≡ sum_by g (client_places p)
missed-and_visited p g routes named once =
    let missed = sum_by-filter (λ c. not (is_visited routes c)) g (client_places p) in
    let visited = visited-sum p g routes named once in
    let both = sum_by-plus (λ c. cond (not (is_visited routes c)) (g c) 0) (λ c. cond (is_visited routes c) (g c) 0) (client_places p) in
    let all = sum_by-same (λ c. cond (not (is_visited routes c)) (g c) 0 + cond (is_visited routes c) (g c) 0) g (client_places p) (λ c. either (is_visited routes c) (g c)) in
    omega arith

-- a range with one place more
pub range-more : (g : ℕ → ℕ) (a n : ℕ) → sum_by g (range_with_len a (suc n)) ≡ sum_by g (range_with_len a n) + g (a + n)
range-more g a zero = let e : g (a + 0) ≡ g a = ap g (omega arith) in let s = sum_by-cons g a [] in omega arith
range-more g a (suc n) =
    let e : g (a + 1 + n) ≡ g (a + suc n) = ap g (omega arith) in
    let s = sum_by-cons g a (range_with_len (a + 1) (suc n)) in
    let t = sum_by-cons g a (range_with_len (a + 1) n) in
    let k = range-more g (a + 1) n in
    omega arith
