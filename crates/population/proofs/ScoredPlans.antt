-- The scores of a list's plans, by their fitness.
use Rattle.std.proofs.Common.{◌≡◌, ◌∙◌, ap, ℕ, List, length, map}
use Rattle.std.proofs.lemmas.List.{length-map}
use Rattle.std.proofs.lemmas.List.FromFn.{length-map-range_with_len}
use Rattle.list_words.specs.Lists.{places_of, rank_falling, rank_rising}
use Rattle.problem_data.specs.declared.problem.Problem.{Problem}
use Rattle.routing_model.specs.declared.weights.Weights.{Weights}
use Rattle.routing_model.specs.Cost.{solution_cost}
use Rattle.routing_model.specs.Routes.{Routes}
use Rattle.genetic_model.specs.declared.params.PopulationParams.{PopulationParams}
use Rattle.genetic_model.specs.Fitness.{diversity, fitness_of_ranks, fitnesses}
use Rattle.genetic_model.specs.Selection.{scores_in}
use Rattle.population.specs.inside.Scores.{scored}

module _ (p : Problem) (params : PopulationParams) (w : Weights) (plans : List Routes) where
  length-fitnesses : length (fitnesses p params w plans) ≡ length plans
  length-fitnesses = length-map-range_with_len
      (λ i. fitness_of_ranks params (length plans) (rank_rising (map (solution_cost p w) plans) i) (rank_falling (map (diversity p params plans) (places_of plans)) i))
      0 (length plans)

  -- they are the scores of the plans with these fitnesses
  pub scored-are : (numbers : List ℕ) → numbers ≡ fitnesses p params w plans → scored numbers ≡ scores_in p params w plans
  scored-are numbers e =
      ap scored e ∙ ap (λ (n : ℕ). map (λ f. record { fitness = f; size = n }) (fitnesses p params w plans)) length-fitnesses

  -- one of each
  pub length-scores : length (scores_in p params w plans) ≡ length plans
  length-scores = length-map (fitnesses p params w plans) (λ (f : ℕ). record { fitness = f; size = length plans }) ∙ length-fitnesses
