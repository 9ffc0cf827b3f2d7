-- A list is purged, one plan at a time.
use Rattle.std.proofs.Common.{◌≡◌, ◌∙◌, ℕ, zero, suc, ◌+◌, ◌-◌, ◌<◌, ◌≤◌, List, length, refl, sym, ap, arith, Option, Some, None}
use Rattle.std.specs.Prelude.{filter}
use Rattle.std.specs.List.{last_or, remove}
use Rattle.std.proofs.lemmas.List.FromFn.{length-map-range_with_len}
use Rattle.list_words.specs.Lists.{last_greatest, places_of, removed_at, times}
use Rattle.problem_data.specs.declared.problem.Problem.{Problem}
use Rattle.routing_model.specs.declared.weights.Weights.{Weights}
use Rattle.routing_model.specs.Routes.{Routes}
use Rattle.genetic_model.specs.declared.params.PopulationParams.{PopulationParams}
use Rattle.genetic_model.specs.Fitness.{fitnesses}
use Rattle.genetic_model.specs.Population.{is_duplicate, without_last_duplicate, without_worst}

-- a step that changes nothing, several times
times-fixed : {X : Type 0} (step : X → X) (n : ℕ) (x : X) → step x ≡ x → times n step x ≡ x
times-fixed step zero x e = refl
times-fixed step (suc n) x e = ap (times n step) e ∙ times-fixed step n x e

-- one step less is left
times-next : {X : Type 0} (step : X → X) (size count : ℕ) (x y : X) → count < size → step x ≡ y → times (size - (count + 1)) step y ≡ times (size - count) step x
times-next step size count x y more e = ap (times (size - (count + 1)) step) (sym e) ∙ sym (ap (λ (n : ℕ). times n step x) (one size count more))
  where
    one : (m n : ℕ) → n < m → m - n ≡ suc (m - (n + 1))
    one m n h = omega arith

module _ (plans : List Routes) where
  pub duplicate-goes : (size count place : ℕ) → count < size → Some place ≡ last_or None (filter (is_duplicate plans) (places_of plans)) →
      times (size - (count + 1)) without_last_duplicate (remove plans place) ≡ times (size - count) without_last_duplicate plans
  duplicate-goes size count place more is =
      times-next without_last_duplicate size count plans (remove plans place) more (ap (λ (o : Option ℕ). removed_at o plans) (sym is))

  pub no-duplicate : (n : ℕ) → None ≡ last_or None (filter (is_duplicate plans) (places_of plans)) → plans ≡ times n without_last_duplicate plans
  no-duplicate n is = sym (times-fixed without_last_duplicate n plans (ap (λ (o : Option ℕ). removed_at o plans) (sym is)))

  module _ (p : Problem) (params : PopulationParams) (w : Weights) where
    pub as-many-fitnesses : length (fitnesses p params w plans) ≡ length plans
    as-many-fitnesses = length-map-range_with_len _ 0 (length plans)

    pub worst-goes : (size count place : ℕ) → count < size → place ≡ last_greatest (fitnesses p params w plans) →
        times (size - (count + 1)) (without_worst p params w) (remove plans place) ≡ times (size - count) (without_worst p params w) plans
    worst-goes size count place more is =
        times-next (without_worst p params w) size count plans (remove plans place) more (ap (λ (i : ℕ). remove plans i) (sym is))

-- no step is left
pub steps-end : {X : Type 0} (step : X → X) (size count : ℕ) (x : X) → size ≤ count → times (size - count) step x ≡ x
steps-end step size count x done = ap (λ (n : ℕ). times n step x) (none size count done)
  where
    none : (m n : ℕ) → m ≤ n → m - n ≡ 0
    none m n h = omega arith
