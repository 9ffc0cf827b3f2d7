-- What plans cost, with a plan more or less.
use Rattle.std.proofs.Common.{◌≡◌, ◌∙◌, ℕ, ◌+◌, ◌<◌, ◌≤◌, ◌⊎◌, inl, inr, List, [], ◌∷◌, ◌++◌, length, map, get_or, take, sym, ap, ap₂, subst, arith}
use Rattle.std.specs.List.{remove}
use Rattle.std.proofs.lemmas.Bool.{cases_lt}
use Rattle.std.proofs.lemmas.List.{get_or_append_left, get_or_push, length-append, map-append, take_more}
use Rattle.std.proofs.lemmas.List.Edits.{get_or-remove_above, get_or-remove_below, length-remove}
use Rattle.problem_data.specs.declared.problem.Problem.{Problem}
use Rattle.routing_model.specs.declared.weights.Weights.{Weights}
use Rattle.routing_model.specs.Cost.{solution_cost}
use Rattle.routing_model.specs.Routes.{Routes}
use Rattle.genetic_model.specs.Fitness.{item_at}
use Rattle.plan_fitness.specs.declared.weighing.PlanCost.{PlanCost}
use Rattle.plan_fitness.specs.PlanCosts.{IsPlanCost}
use Rattle.subpopulation.specs.declared.list.Subpopulation.{Subpopulation}
use Rattle.subpopulation.specs.Kept.{AreCosts, CanBeWeighed, IsKept}

-- what is kept right of a problem can be weighed
pub kept-weighs : (p : Problem) (list : Subpopulation) → IsKept p list → CanBeWeighed list
kept-weighs p list is = record { as_many = is.costs.as_many; in_range = λ k d low. (is.costs.each k d low).in_range }

pub costs-push : (p : Problem) (plans : List Routes) (costs : List PlanCost) (r : Routes) (c : PlanCost) → AreCosts p plans costs → IsPlanCost p r c → AreCosts p (plans ++ r ∷ []) (costs ++ c ∷ [])
costs-push p plans costs r c are is = record { as_many = many; each = λ k d low. by k d low (cases_lt k (length costs)) }
  where
    many : length (costs ++ c ∷ []) ≡ length (plans ++ r ∷ [])
    many = let e = length-append costs (c ∷ []) in let f = length-append plans (r ∷ []) in let m = are.as_many in omega arith

    by : (k : ℕ) (d : PlanCost) → k < length (costs ++ c ∷ []) → (k < length costs) ⊎ (length costs ≤ k) → IsPlanCost p (item_at (plans ++ r ∷ []) k) (get_or (costs ++ c ∷ []) k d)
    by k d low (inl h) =
        let m = are.as_many in
        subst (λ (x : Routes). IsPlanCost p x (get_or (costs ++ c ∷ []) k d)) (sym (get_or_append_left plans (r ∷ []) [] k (omega arith)))
        (subst (IsPlanCost p (item_at plans k)) (sym (get_or_append_left costs (c ∷ []) d k h)) (are.each k d h))
    by k d low (inr h) =
        let m = are.as_many in
        let e = length-append costs (c ∷ []) in
        subst (λ (x : Routes). IsPlanCost p x (get_or (costs ++ c ∷ []) k d)) (sym (get_or_push plans r [] k (omega arith))) (subst (IsPlanCost p r) (sym (get_or_push costs c d k (omega arith))) is)

pub costs-remove : (p : Problem) (plans : List Routes) (costs : List PlanCost) (place : ℕ) → place < length plans → AreCosts p plans costs → AreCosts p (remove plans place) (remove costs place)
costs-remove p plans costs place inside are = record { as_many = many; each = λ k d low. by k d low (cases_lt k place) }
  where
    there : place < length costs
    there = let m = are.as_many in omega arith

    many : length (remove costs place) ≡ length (remove plans place)
    many = let e = length-remove costs place there in let f = length-remove plans place inside in let m = are.as_many in omega arith

    by : (k : ℕ) (d : PlanCost) → k < length (remove costs place) → (k < place) ⊎ (place ≤ k) → IsPlanCost p (item_at (remove plans place) k) (get_or (remove costs place) k d)
    by k d low (inl h) =
        let e = length-remove costs place there in
        subst (λ (x : Routes). IsPlanCost p x (get_or (remove costs place) k d)) (sym (get_or-remove_below plans place [] k h inside))
        (subst (IsPlanCost p (item_at plans k)) (sym (get_or-remove_below costs place d k h there)) (are.each k d (omega arith)))
    by k d low (inr h) =
        let e = length-remove costs place there in
        subst (λ (x : Routes). IsPlanCost p x (get_or (remove costs place) k d)) (sym (get_or-remove_above plans place [] k h inside))
        (subst (IsPlanCost p (item_at plans (k + 1))) (sym (get_or-remove_above costs place d k h there)) (are.each (k + 1) d (omega arith)))

-- what the first plans cost, one plan more
pub weighed-more : (p : Problem) (w : Weights) (plans : List Routes) (so_far : List ℕ) (k cost : ℕ) → k < length plans → so_far ≡ map (solution_cost p w) (take k plans) → cost ≡ solution_cost p w (item_at plans k) →
    so_far ++ cost ∷ [] ≡ map (solution_cost p w) (take (k + 1) plans)
weighed-more p w plans so_far k cost inside e f =
    ap₂ (λ (xs : List ℕ) (x : ℕ). xs ++ x ∷ []) e f
    ∙ (sym (map-append (solution_cost p w) (take k plans) (item_at plans k ∷ [])) ∙ ap (map (solution_cost p w)) (sym (take_more plans k [] inside)))
