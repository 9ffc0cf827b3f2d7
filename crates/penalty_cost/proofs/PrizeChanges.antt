-- What a plan misses where the lists of one vehicle, or of two, are replaced.
use Rattle.std.proofs.Common.{◌≡◌, ◌≢◌, ℕ, ◌+◌, ◌*◌, ◌<◌, ◌≤◌, true, cond, List, [], ◌∷◌, length, get_or, set, refl, sym, ◌∙◌, ap, arith, length-set}
use Rattle.std.specs.Prelude.{count_by, nat_le, not, sum_by}
use Rattle.std.specs.List.{list_all}
use Rattle.std.proofs.lemmas.Bool.Decides.{nat_tests}
use Rattle.std.proofs.lemmas.List.{get_or-set_other}
use Rattle.std.proofs.lemmas.List.Sums.{sum_by-cons, sum_by-set}
use Rattle.problem_data.specs.declared.problem.Problem.{Problem}
use Rattle.problem_data.specs.declared.visit.Visit.{Visit}
use Rattle.problem_data.specs.declared.visit.Visit.TheVariants.{Client, Reload}
use Rattle.problem_data.specs.Places.{client_at, client_places}
use Rattle.routing_model.specs.Cost.{missed_prizes}
use Rattle.routing_model.specs.Lawful.{names_place}
use Rattle.routing_model.specs.Routes.{Routes, clients_of, is_visit_of, is_visited, visit_count}
use Rattle.trips.specs.RunSegments.{prizes_of}
use Rattle.penalty_cost.specs.inside.VisitSums.{at_visit, at_visits, prize_at}
use Rattle.penalty_cost.proofs.FleetSums.{sum_by-filter}
use Rattle.penalty_cost.proofs.VisitSums.{either, shared, sum_by-none, sum_by-plus, sum_by-same, visited-once, visits-exchanged}

-- how often a list visits a client
abbrev pub times : ℕ → List Visit → ℕ
times client visits = count_by (is_visit_of client) visits

-- what each client of a problem adds as often as a list visits it
abbrev pub worth : Problem → (ℕ → ℕ) → List Visit → ℕ
worth p g visits = sum_by (λ c. times c visits * g c) (client_places p)

-- likewise as often as a plan visits it
plan-worth : (p : Problem) (g : ℕ → ℕ) (routes : Routes) → sum_by (λ c. visit_count routes c * g c) (client_places p) ≡ sum_by (worth p g) routes
plan-worth p g [] = sum_by-none (λ c. 0 * g c) (client_places p) (λ c. omega arith)
plan-worth p g (visits ∷ rest) =
    sum_by-same (λ c. visit_count (visits ∷ rest) c * g c) (λ c. times c visits * g c + visit_count rest c * g c) (client_places p)
    (λ c. ap (λ (n : ℕ). n * g c) (sum_by-cons (times c) visits rest) ∙ shared (times c visits) (visit_count rest c) (g c))
    ∙ (sum_by-plus (λ c. times c visits * g c) (λ c. visit_count rest c * g c) (client_places p)
    ∙ (ap (λ (n : ℕ). worth p g visits + n) (plan-worth p g rest) ∙ sym (sum_by-cons (worth p g) visits rest)))

once-test : (n : ℕ) → n ≤ 1 → nat_le n 1 ≡ true
once-test n h = grind (arith, nat_tests)

-- of a plan that visits no client twice
missed-worth : (p : Problem) (routes : Routes) → ((client : ℕ) → visit_count routes client ≤ 1) → missed_prizes p routes + sum_by (worth p (prize_at p)) routes ≡ sum_by (prize_at p) (client_places p)
missed-worth p routes once =
    let g = prize_at p in
    let missed = sum_by-filter (λ c. not (is_visited routes c)) g (client_places p) in
    let visited = sum_by-same (λ c. visit_count routes c * g c) (λ c. cond (is_visited routes c) (g c) 0) (client_places p) (λ c. visited-once routes c (g c) (once-test (visit_count routes c) (once c))) in
    let counted = plan-worth p g routes in
    let both = sum_by-plus (λ c. cond (not (is_visited routes c)) (g c) 0) (λ c. cond (is_visited routes c) (g c) 0) (client_places p) in
    let all = sum_by-same (λ c. cond (not (is_visited routes c)) (g c) 0 + cond (is_visited routes c) (g c) 0) g (client_places p) (λ c. either (is_visited routes c) (g c)) in
    omega arith

-- what a list of places that are there is worth
prizes-of : (p : Problem) (visits : List Visit) → at_visits (prize_at p) visits ≡ prizes_of p visits
prizes-of p [] = refl
prizes-of p (Client place ∷ rest) =
    sum_by-cons (at_visit (prize_at p)) (Client place) rest ∙ (ap (λ (n : ℕ). prize_at p place + n) (prizes-of p rest) ∙ sym (sum_by-cons (λ (c : ℕ). (client_at p c).prize) place (clients_of rest)))
prizes-of p (Reload depot ∷ rest) = let first = sum_by-cons (at_visit (prize_at p)) (Reload depot) rest in let others = prizes-of p rest in omega arith

worth-is : (p : Problem) (visits : List Visit) → list_all (names_place p) visits ≡ true → worth p (prize_at p) visits ≡ prizes_of p visits
worth-is p visits named = visits-exchanged p (prize_at p) visits named ∙ prizes-of p visits

module _ (p : Problem) (routes : Routes) (once : (client : ℕ) → visit_count routes client ≤ 1) (i : ℕ) (old xs : List Visit) (inside : i < length routes) (is_old : get_or routes i [] ≡ old)
    (named_old : list_all (names_place p) old ≡ true) (named : list_all (names_place p) xs ≡ true) where
  -- one list replaced
  pub missed-one : ((client : ℕ) → visit_count (set routes i xs) client ≤ 1) → missed_prizes p (set routes i xs) + prizes_of p xs ≡ missed_prizes p routes + prizes_of p old
  missed-one once_now =
      let before = missed-worth p routes once in
      let after = missed-worth p (set routes i xs) once_now in
      let changed = sum_by-set (worth p (prize_at p)) routes i xs [] inside in
      let was : worth p (prize_at p) (get_or routes i []) ≡ prizes_of p old = ap (worth p (prize_at p)) is_old ∙ worth-is p old named_old in
      let is = worth-is p xs named in
      omega arith

  -- two lists replaced
  module _ (j : ℕ) (other ys : List Visit) (inside_other : j < length routes) (apart : j ≢ i) (is_other : get_or routes j [] ≡ other) (named_other : list_all (names_place p) other ≡ true)
      (named_ys : list_all (names_place p) ys ≡ true) where
    pub missed-two : ((client : ℕ) → visit_count (set (set routes i xs) j ys) client ≤ 1) →
        missed_prizes p (set (set routes i xs) j ys) + (prizes_of p xs + prizes_of p ys) ≡ missed_prizes p routes + (prizes_of p old + prizes_of p other)
    missed-two once_now =
        let before = missed-worth p routes once in
        let after = missed-worth p (set (set routes i xs) j ys) once_now in
        let changed = sum_by-set (worth p (prize_at p)) routes i xs [] inside in
        let long = length-set routes i xs in
        let changed_other = sum_by-set (worth p (prize_at p)) (set routes i xs) j ys [] (omega arith) in
        let was : worth p (prize_at p) (get_or routes i []) ≡ prizes_of p old = ap (worth p (prize_at p)) is_old ∙ worth-is p old named_old in
        let was_other : worth p (prize_at p) (get_or (set routes i xs) j []) ≡ prizes_of p other =
        ap (worth p (prize_at p)) (get_or-set_other routes i j xs [] apart ∙ is_other) ∙ worth-is p other named_other in
        let is = worth-is p xs named in
        let is_ys = worth-is p ys named_ys in
        omega arith
