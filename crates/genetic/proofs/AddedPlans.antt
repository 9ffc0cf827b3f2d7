-- A population that a plan was added to holds one.
use Rattle.std.proofs.Common.{◌≤◌, Bool, true, false, arith, length, length-append}
use Rattle.std.specs.Prelude.{⊤}
use Rattle.problem_data.specs.declared.problem.Problem.{Problem}
use Rattle.routing_model.specs.declared.weights.Weights.{Weights}
use Rattle.routing_model.specs.Feasible.{is_feasible}
use Rattle.routing_model.specs.Routes.{Routes}
use Rattle.genetic_model.specs.Population.{Population, added, added_to, appended, items_of}
use Rattle.genetic_model.proofs.LawfulRun.{appended-some}

pub added-some : (p : Problem) (w : Weights) (routes : Routes) (population : Population) → 1 ≤ population.params.min_pop_size → 1 ≤ length (items_of (added p w routes population))
added-some p w routes population least = by (is_feasible p routes)
  where
    by : (b : Bool) → 1 ≤ length (items_of (added_to p w routes b population))
    by true =
        let some = appended-some (λ _. ⊤) p population.params w routes population.feasible least in
        let long = length-append (appended p population.params w routes population.feasible) population.infeasible in omega (arith, some, long)
    by false =
        let some = appended-some (λ _. ⊤) p population.params w routes population.infeasible least in
        let long = length-append population.feasible (appended p population.params w routes population.infeasible) in omega (arith, some, long)
