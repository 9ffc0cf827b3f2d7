use Rattle.std.proofs.Common.{◌≡◌, ◌∙◌, ap, ℕ, List, map}
use Rattle.std.specs.List.{range_with_len}
use Rattle.std.proofs.lemmas.List.{length-map}
use Rattle.list_words.specs.Lists.{places_of, rank_falling, rank_rising}
use Rattle.problem_data.specs.declared.problem.Problem.{Problem}
use Rattle.routing_model.specs.declared.weights.Weights.{Weights}
use Rattle.routing_model.specs.Cost.{solution_cost}
use Rattle.routing_model.specs.Routes.{Routes}
use Rattle.genetic_model.specs.declared.params.PopulationParams.{PopulationParams}
use Rattle.genetic_model.specs.Fitness.{diversity, fitness_of_ranks, fitnesses}
use Rattle.plan_fitness.specs.inside.Ranked.{fitnesses_by}
use Rattle.plan_fitness.proofs.fitness.fitnesses.Goals as goal

-- the fitnesses of plans, by what they cost and how diverse they are
of-plans : (p : Problem) (params : PopulationParams) (w : Weights) (plans : List Routes) →
    fitnesses_by params (map (solution_cost p w) plans) (map (diversity p params plans) (places_of plans)) ≡ fitnesses p params w plans
of-plans p params w plans =
    let costs : List ℕ = map (solution_cost p w) plans in
    let diversities : List ℕ = map (diversity p params plans) (places_of plans) in
    ap (λ (n : ℕ). map (λ i. fitness_of_ranks params n (rank_rising costs i) (rank_falling diversities i)) (range_with_len 0 n)) (length-map plans (solution_cost p w))

pub returns : goal.returns
returns c = record {
  plans = λ p w plans e f.
      c.fitnesses_by.ensures ∙ (ap (λ (l : List ℕ). fitnesses_by c.args.params l c.args.diversities.now) e
      ∙ (ap (fitnesses_by c.args.params (map (solution_cost p w) plans)) f ∙ of-plans p c.args.params w plans));
}
