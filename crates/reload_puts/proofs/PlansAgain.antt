-- Plans with one or two new lists that visit the clients of a lawful plan, in tidy lists of places that are there: lawful exactly where the
-- new lists have reloads as their vehicles' types allow.
use Rattle.std.proofs.Common.{◌≡◌, ℕ, ◌+◌, Bool, true, false, ◌&&◌, cond, List, [], ◌∷◌, length, refl, sym, ◌∙◌, ap, ap₂}
use Rattle.std.specs.Prelude.{◌==◌, count_by, nat_le}
use Rattle.std.specs.List.{list_all}
use Rattle.std.proofs.lemmas.List.Sums.{sum_by-cons}
use Rattle.problem_data.specs.declared.problem.Problem.{Problem}
use Rattle.problem_data.specs.Places.{client_places, fleet}
use Rattle.routing_model.specs.Lawful.{IsLawful, is_lawful, is_required, is_required_group, names_places, serves_group}
use Rattle.routing_model.specs.Routes.{Routes, is_visited, visit_count}
use Rattle.routing_model.specs.Tidy.{is_tidy}
use Rattle.routing_model.proofs.LawfulChanges.{all_allowed}
use Rattle.routing_model.proofs.LawfulFacts.{facts-lawful, lawful-facts}
use Rattle.routing_model.proofs.VisitCounts.{is_visited-count}

list_all-like : {X : Type 0} (q r : X → Bool) → ((x : X) → q x ≡ r x) → (xs : List X) → list_all q xs ≡ list_all r xs
list_all-like q r each [] = refl
list_all-like q r each (x ∷ xs) = ap₂ (λ (a b : Bool). a && b) (each x) (list_all-like q r each xs)

count_by-like : {X : Type 0} (q r : X → Bool) → ((x : X) → q x ≡ r x) → (xs : List X) → count_by q xs ≡ count_by r xs
count_by-like q r each [] = refl
count_by-like q r each (x ∷ xs) =
    sum_by-cons (λ y. cond (q y) 1 0) x xs
    ∙ (ap₂ (λ (b : Bool) (n : ℕ). cond b 1 0 + n) (each x) (count_by-like q r each xs) ∙ sym (sum_by-cons (λ y. cond (r y) 1 0) x xs))

module _ (p : Problem) (routes made : Routes) (lawful : is_lawful p routes ≡ true) (same : length made ≡ length routes)
    (counts : (c : ℕ) → visit_count made c ≡ visit_count routes c) (tidy : list_all is_tidy made ≡ true) (named : names_places p made ≡ true) where
  visited : (c : ℕ) → is_visited made c ≡ is_visited routes c
  visited c = is_visited-count c made ∙ (ap (nat_le 1) (counts c) ∙ sym (is_visited-count c routes))

  group-like : (members : List ℕ) → serves_group p made members ≡ serves_group p routes members
  group-like members =
      ap (λ (n : ℕ). cond (is_required_group p members) (n == 1) (nat_le n 1)) (count_by-like (is_visited made) (is_visited routes) visited members)

  pub lawful-as-allowed : is_lawful p made ≡ all_allowed (fleet p) made
  lawful-as-allowed = by (all_allowed (fleet p) made) refl
    where
      by : (b : Bool) → all_allowed (fleet p) made ≡ b → is_lawful p made ≡ all_allowed (fleet p) made
      by true e =
          let facts : IsLawful p routes = lawful-facts p routes lawful in
          facts-lawful p made (record {
            one_list_each = same ∙ facts.one_list_each;
            names_places = named;
            visits_at_most_once = list_all-like (λ client. nat_le (visit_count made client) 1) (λ client. nat_le (visit_count routes client) 1)
                (λ client. ap (λ (n : ℕ). nat_le n 1) (counts client)) (client_places p) ∙ facts.visits_at_most_once;
            serves_required = list_all-like (λ client. cond (is_required p client) (is_visited made client) true) (λ client. cond (is_required p client) (is_visited routes client) true)
                (λ client. ap (λ (b : Bool). cond (is_required p client) b true) (visited client)) (client_places p) ∙ facts.serves_required;
            serves_groups = list_all-like (serves_group p made) (serves_group p routes) group-like p.groups ∙ facts.serves_groups;
            tidy = tidy;
            reloads_as_allowed = e;
          }) ∙ sym e
      by false e = stays (is_lawful p made) refl
        where
          stays : (c : Bool) → is_lawful p made ≡ c → is_lawful p made ≡ all_allowed (fleet p) made
          stays true f = let facts : IsLawful p made = lawful-facts p made f in f ∙ sym facts.reloads_as_allowed
          stays false f = f ∙ sym e
