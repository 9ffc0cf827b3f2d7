-- Marks of the clients that a plan visits.
use Rattle.std.proofs.Common.{◌≡◌, ◌≢◌, ◌∙◌, ℕ, ◌+◌, ◌<◌, ◌≤◌, ◌==◌, ◌||◌, Bool, true, false, cond, List, [], ◌∷◌, ◌++◌, length, get_or, set, take, ap, arith, refl, sym}
use Rattle.std.specs.Prelude.{nat_eq, unwrap_or}
use Rattle.std.specs.List.{list_any}
use Rattle.std.proofs.lemmas.Bool.{both_ways}
use Rattle.std.proofs.lemmas.Bool.Decides.{nat_tests}
use Rattle.std.proofs.lemmas.Grind.{flat_map-append}
use Rattle.std.proofs.lemmas.List.{append-nil, get_or-set_other, get_or-set_same, length-set, take_more}
use Rattle.list_words.specs.Lists.{is_in}
use Rattle.list_words.specs.Order.{first_least}
use Rattle.problem_data.specs.declared.problem.Problem.{Problem}
use Rattle.routing_model.specs.declared.weights.Weights.{Weights}
use Rattle.routing_model.specs.Cost.{solution_cost}
use Rattle.routing_model.specs.Routes.{Routes, clients_of, is_visited}
use Rattle.random_model.proofs.Dealing.{vehicles_some}
use Rattle.genetic_model.specs.Insertion.{completed_with, insertions}
use Rattle.genetic_model.proofs.RouteTotals.{all_clients, total, visited-any}
use Rattle.genetic_model.proofs.SoundInsertion.{IsInserted, counted-visited, insertions-inserted, insertions-some, least-of, put, total-put, visited-counted}
use Rattle.route_rings.specs.Marks.{AreMarks}
use Rattle.least_insertions.specs.inside.Places.{IsMissingIn}
use Rattle.least_insertions.specs.inside.Visited.{AreVisited}

turned : (m n : ℕ) → nat_eq m n ≡ (n == m)
turned m n = grind (arith, nat_tests)

in-any : (clients : List ℕ) (c : ℕ) → is_in clients c ≡ list_any (λ d. d == c) clients
in-any [] c = refl
in-any (d ∷ clients) c = ap (λ (b : Bool). b || is_in clients c) (turned c d) ∙ ap (λ (b : Bool). (d == c) || b) (in-any clients c)

-- marks of all clients of a plan
pub marks-visited : (marks : List Bool) (routes : Routes) → AreMarks marks (all_clients routes) → AreVisited marks routes
marks-visited marks routes are c inside = are c inside ∙ (in-any (all_clients routes) c ∙ sym (visited-any c routes))

-- one list more
pub lists-next : (routes : Routes) (k : ℕ) → k < length routes → all_clients (take k routes) ++ clients_of (get_or routes k []) ≡ all_clients (take (k + 1) routes)
lists-next routes k inside =
    sym (ap all_clients (take_more routes k [] inside)
    ∙ (flat_map-append clients_of (take k routes) (get_or routes k [] ∷ []) ∙ ap (λ (cs : List ℕ). all_clients (take k routes) ++ cs) (append-nil (clients_of (get_or routes k [])))))

one-more : (b : Bool) → b ≡ true → cond {A = ℕ} b 1 0 ≡ 1
one-more b e = ap (λ (t : Bool). cond {A = ℕ} t 1 0) e

none-more : (b : Bool) → b ≡ false → cond {A = ℕ} b 1 0 ≡ 0
none-more b e = ap (λ (t : Bool). cond {A = ℕ} t 1 0) e

module _ (p : Problem) (w : Weights) (routes : Routes) (c : ℕ) (missing : IsMissingIn p routes c) where
  visited-put : (v i : ℕ) (there : v < length routes) (d : ℕ) → is_visited (put routes c v i there) d ≡ (is_visited routes d || (c == d))
  visited-put v i there d = by (is_visited routes d) (c == d) refl refl (total-put routes c v i there (λ k. k == d))
    where
      by : (a b : Bool) → is_visited routes d ≡ a → (c == d) ≡ b → total (λ k. k == d) (put routes c v i there) ≡ total (λ k. k == d) routes + cond (c == d) 1 0 → is_visited (put routes c v i there) d ≡ (a || b)
      by true b h e more = counted-visited (put routes c v i there) d (let l = visited-counted routes d h in omega arith)
      by false true h e more = counted-visited (put routes c v i there) d (let one = one-more (c == d) e in omega arith)
      by false false h e more = none (is_visited (put routes c v i there) d) refl
        where
          none : (t : Bool) → is_visited (put routes c v i there) d ≡ t → is_visited (put routes c v i there) d ≡ false
          none false k = k
          none true k =
              let found : 1 ≤ total (λ k. k == d) (put routes c v i there) = visited-counted (put routes c v i there) d k in
              let same = none-more (c == d) e in
              absurd (both_ways (is_visited routes d) h (counted-visited routes d (omega arith)))

  visited-inserted : (made : Routes) → IsInserted routes c made → (d : ℕ) → is_visited made d ≡ (is_visited routes d || (c == d))
  visited-inserted made ins d = ap (λ (r : Routes). is_visited r d) ins.is ∙ visited-put ins.vehicle ins.position ins.there d

  completed-is : completed_with p w routes c ≡ unwrap_or (first_least (solution_cost p w) (insertions p routes c)) routes
  completed-is = ap (λ (b : Bool). cond b (unwrap_or (first_least (solution_cost p w) (insertions p routes c)) routes) routes) missing.missing

  visited-completed : (d : ℕ) → is_visited (completed_with p w routes c) d ≡ (is_visited routes d || (c == d))
  visited-completed d =
      ap (λ (r : Routes). is_visited r d) completed-is
      ∙ visited-inserted (unwrap_or (first_least (solution_cost p w) (insertions p routes c)) routes)
      (least-of (IsInserted routes c) (solution_cost p w) routes (insertions p routes c)
      (insertions-some p c routes (let l = missing.sound.one_list_each in let k = vehicles_some p missing.valid in omega arith)) (insertions-inserted p c routes)) d

  -- with a missing client put in, its place is marked
  pub marks-completed : (marks : List Bool) → AreVisited marks routes → AreVisited (set marks c true) (completed_with p w routes c)
  marks-completed marks are d inside = by (nat_eq c d) refl
    where
      long : d < length marks
      long = let same = length-set marks c true in omega arith

      same : (m n : ℕ) → nat_eq m n ≡ true → m ≡ n
      same m n h = grind (arith, nat_tests)

      other : (m n : ℕ) → nat_eq m n ≡ false → n ≢ m
      other m n h k = grind (arith, nat_tests)

      or-true : (b : Bool) → (b || true) ≡ true
      or-true true = refl
      or-true false = refl

      or-false : (b : Bool) → (b || false) ≡ b
      or-false true = refl
      or-false false = refl

      by : (b : Bool) → nat_eq c d ≡ b → get_or (set marks c true) d false ≡ is_visited (completed_with p w routes c) d
      by true h =
          ap (λ (i : ℕ). get_or (set marks i true) d false) (same c d h)
          ∙ (get_or-set_same marks d true false long
          ∙ (sym (or-true (is_visited routes d)) ∙ (ap (λ (b : Bool). is_visited routes d || b) (sym h) ∙ sym (visited-completed d))))
      by false h =
          get_or-set_other marks c d true false (other c d h)
          ∙ (are d long ∙ (sym (or-false (is_visited routes d)) ∙ (ap (λ (b : Bool). is_visited routes d || b) (sym h) ∙ sym (visited-completed d))))
