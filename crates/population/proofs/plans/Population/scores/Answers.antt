use Rattle.std.proofs.Common.{◌∙◌, sym, ap, ap₂, ℕ, ◌+◌, List, ◌++◌, length, length-append}
use Rattle.genetic_model.specs.Selection.{Score, scores_in}
use Rattle.subpopulation.specs.Kept.{plans_of}
use Rattle.population.specs.inside.Scores.{scored}
use Rattle.population.proofs.ScoredPlans.{length-scores, scored-are}
use Rattle.population.proofs.plans.Population.scores.Goals as goal

pub returns-clause-scores : goal.returns-clause-scores
returns-clause-scores c =
    let p = c.args.given.now in
    let params = c.args.self.now.params in
    let w = c.args.weights in
    let feasible = scored-are p params w (plans_of c.args.self.now.feasible) c.as_slice.result.now (c.as_slice.ensures.value ∙ c.fitnesses-feasible.ensures p c.requires.kept.feasible) in
    let infeasible = scored-are p params w (plans_of c.args.self.now.infeasible) c.as_slice-2.result.now (c.as_slice-2.ensures.value ∙ c.fitnesses-infeasible.ensures p c.requires.kept.infeasible) in
    let first = c.in_ok-push_scores.ensures ∙ ap (λ (l : List Score). l ++ scored c.as_slice.result.now) c.new-scores.ensures.items in
    c.in_ok-push_scores-2.ensures ∙ (ap (λ (l : List Score). l ++ scored c.as_slice-2.result.now) first ∙ ap₂ (λ (l m : List Score). l ++ m) feasible infeasible)

pub returns-clause-as_many : goal.returns-clause-as_many
returns-clause-as_many c =
    let p = c.args.given.now in
    let params = c.args.self.now.params in
    let w = c.args.weights in
    let feasible = plans_of c.args.self.now.feasible in
    let infeasible = plans_of c.args.self.now.infeasible in
    ap length (returns-clause-scores c)
    ∙ (length-append (scores_in p params w feasible) (scores_in p params w infeasible)
    ∙ (ap₂ (λ (m n : ℕ). m + n) (length-scores p params w feasible) (length-scores p params w infeasible) ∙ sym (length-append feasible infeasible)))
