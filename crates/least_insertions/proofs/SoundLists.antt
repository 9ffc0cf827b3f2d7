-- The lists of a plan that is lawful but for what is missing are ones that vehicles can have.
use Rattle.std.proofs.Common.{◌≡◌, ◌∙◌, ℕ, zero, suc, ◌<◌, ◌≤◌, ◌⊎◌, inl, inr, Bool, true, false, cond, List, [], ◌∷◌, All, length, get_or, insert, fold, ap, arith, subst, sym}
use Rattle.std.specs.Prelude.{unwrap_or}
use Rattle.std.specs.List.{list_all}
use Rattle.std.proofs.lemmas.Bool.{and_parts}
use Rattle.std.proofs.lemmas.List.Sums.{AllPass-from_list_all, list_all-from_AllPass}
use Rattle.std.proofs.lemmas.List.{get_or_default}
use Rattle.std.proofs.lemmas.Option.{unwrap_or-slice_get}
use Rattle.list_words.specs.Order.{first_least}
use Rattle.problem_data.specs.declared.problem.Problem.{Problem}
use Rattle.problem_data.specs.declared.visit.Visit.{Visit}
use Rattle.problem_data.specs.declared.visit.Visit.TheVariants.{Client}
use Rattle.problem_data.specs.Limits.{most_visits}
use Rattle.problem_data.specs.Places.{client_places, is_client_place}
use Rattle.problem_data.specs.Valid.{IsValid}
use Rattle.routing_model.specs.declared.weights.Weights.{Weights}
use Rattle.routing_model.specs.Cost.{solution_cost}
use Rattle.routing_model.specs.Lawful.{names_place}
use Rattle.routing_model.specs.Listed.{IsListed}
use Rattle.routing_model.specs.Routes.{Routes, list_at}
use Rattle.routing_model.specs.Tidy.{is_tidy}
use Rattle.genetic_model.specs.Insertion.{completed, completed_with, insertions, is_missing}
use Rattle.random_model.proofs.Dealing.{vehicles_some}
use Rattle.random_model.proofs.RandomOrders.{client_places-clients}
use Rattle.genetic_model.proofs.LawfulExchange.{completed-lawful}
use Rattle.genetic_model.proofs.SoundChildren.{IsSound}
use Rattle.genetic_model.proofs.SoundInsertion.{IsInserted, fold-completion, insertions-inserted, insertions-some, least-of, put, put-at, step-completion}
use Rattle.route_cache.proofs.LawfulLists.{lawful-listed}

insert-longer : (xs : List Visit) (i : ℕ) (y : Visit) → length xs ≤ length (insert xs i y)
insert-longer [] zero y = omega arith
insert-longer [] (suc i) y = omega arith
insert-longer (x ∷ xs) zero y = omega arith
insert-longer (x ∷ xs) (suc i) y = let h = insert-longer xs i y in omega arith

module _ (p : Problem) (w : Weights) (valid : IsValid p) where
  inserted-longer : (routes made : Routes) (c : ℕ) → IsInserted routes c made → (u : ℕ) → length (list_at routes u) ≤ length (list_at made u)
  inserted-longer routes made c ins u =
      subst (λ (r : Routes). length (list_at routes u) ≤ length (list_at r u)) (sym ins.is) (by (put-at routes c ins.vehicle ins.position ins.there u))
    where
      by : (list_at (put routes c ins.vehicle ins.position ins.there) u ≡ list_at routes u)
          ⊎ ((u ≡ ins.vehicle) × (list_at (put routes c ins.vehicle ins.position ins.there) u ≡ insert (list_at routes ins.vehicle) ins.position (Client c))) →
          length (list_at routes u) ≤ length (list_at (put routes c ins.vehicle ins.position ins.there) u)
      by (inl e) = subst (λ (xs : List Visit). length (list_at routes u) ≤ length xs) (sym e) (omega arith)
      by (inr e) =
          subst (λ (xs : List Visit). length (list_at routes u) ≤ length xs) (sym e.1)
          (subst (λ (v : ℕ). length (list_at routes v) ≤ length (insert (list_at routes ins.vehicle) ins.position (Client c))) (sym e.0)
          (insert-longer (list_at routes ins.vehicle) ins.position (Client c)))

  step-longer : (routes : Routes) (c : ℕ) → IsSound p routes → (u : ℕ) → length (list_at routes u) ≤ length (list_at (completed_with p w routes c) u)
  step-longer routes c s u = by (is_missing p routes c)
    where
      best : length (list_at routes u) ≤ length (list_at (unwrap_or (first_least (solution_cost p w) (insertions p routes c)) routes) u)
      best = inserted-longer routes (unwrap_or (first_least (solution_cost p w) (insertions p routes c)) routes) c
          (least-of (IsInserted routes c) (solution_cost p w) routes (insertions p routes c)
          (insertions-some p c routes (let l = s.one_list_each in let k = vehicles_some p valid in omega arith)) (insertions-inserted p c routes)) u

      by : (b : Bool) → length (list_at routes u) ≤ length (list_at (cond b (unwrap_or (first_least (solution_cost p w) (insertions p routes c)) routes) routes) u)
      by true = best
      by false = omega arith

  fold-longer : (clients : List ℕ) (routes : Routes) → IsSound p routes → list_all (is_client_place p) clients ≡ true →
      (u : ℕ) → length (list_at routes u) ≤ length (list_at (fold (completed_with p w) routes clients) u)
  fold-longer [] routes s all u = omega arith
  fold-longer (c ∷ clients) routes s all u =
      let both = and_parts (is_client_place p c) (list_all (is_client_place p) clients) all in
      let first = step-longer routes c s u in
      let sound : IsSound p (completed_with p w routes c) = (step-completion p w valid (vehicles_some p valid) routes c s both.0).sound in
      let rest = fold-longer clients (completed_with p w routes c) sound both.1 u in
      omega arith

  pub few-visits : (routes : Routes) → IsSound p routes → (u : ℕ) → u < length routes → length (list_at routes u) ≤ most_visits
  few-visits routes s u inside =
      let all = list_all-from_AllPass (is_client_place p) (client_places p) (client_places-clients p) in
      let long = fold-longer (client_places p) routes s all u in
      let made : Routes = completed p w routes in
      let done = fold-completion p w valid (vehicles_some p valid) (client_places p) routes s all in
      let same = s.one_list_each in
      let same_made = done.sound.one_list_each in
      let listed : IsListed p (get_or made u []) = lawful-listed p made valid (completed-lawful p w routes valid s) u [] (omega arith) in
      let few = listed.few in
      let is = ap length (unwrap_or-slice_get made u []) in
      omega arith

pub sound-listed : (p : Problem) (routes : Routes) → IsValid p → IsSound p routes → All (IsListed p) routes
sound-listed p routes valid s i d inside = record {
  tidy = AllPass-from_list_all is_tidy routes s.tidy i d inside;
  named = AllPass-from_list_all (list_all (names_place p)) routes s.named i d inside;
  few = let few = few-visits p (record { load = 0; warp = 0; distance = 0 }) valid routes s i inside in
      let is = ap length (unwrap_or-slice_get routes i [] ∙ get_or_default routes i [] d inside) in omega arith;
}
