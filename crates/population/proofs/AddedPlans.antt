-- What a population is with a plan added.
use Rattle.std.proofs.Common.{◌≡◌, refl, ◌&&◌, Bool, true, false, Option, Some, None}
use Rattle.std.specs.Prelude.{IsTrue, if◌then◌else◌, is_some}
use Rattle.problem_data.specs.declared.problem.Problem.{Problem}
use Rattle.problem_data.specs.Valid.{IsValid}
use Rattle.routing_model.specs.declared.weights.Weights.{Weights}
use Rattle.routing_model.specs.Best.{Best, best_after, improves, is_below_best}
use Rattle.routing_model.specs.Cost.{solution_cost}
use Rattle.routing_model.specs.Feasible.{is_feasible}
use Rattle.routing_model.specs.Lawful.{is_lawful}
use Rattle.routing_model.specs.Routes.{Routes}
use Rattle.routing_model.proofs.LawfulFacts.{lawful-facts}
use Rattle.route_cache.proofs.LawfulLists.{lawful-listed}
use Rattle.penalty_cost.specs.Plans.{IsDrivablePlan}

-- a lawful plan can be costed
pub drivable : (p : Problem) (routes : Routes) → IsValid p → IsTrue (is_lawful p routes) → IsDrivablePlan p routes
drivable p routes valid lawful = record {
  one_list_each = (lawful-facts p routes lawful).one_list_each;
  listed = lawful-listed p routes valid lawful;
  at_most_once = (lawful-facts p routes lawful).visits_at_most_once;
}

-- what takes the place of the best, where a plan is better than it by the one test or by both
replaced-by : (feasible below : Bool) (new best : Option Best) (b : Best) → feasible ≡ true → new ≡ (if below then Some b else None) →
    ((if is_some new then new else best) ≡ (if feasible && below then Some b else best)) × (is_some new ≡ (feasible && below))
replaced-by feasible true new best b h e = rw (h, e) (refl, refl)
replaced-by feasible false new best b h e = rw (h, e) (refl, refl)

-- the best where a feasible plan was found
pub replaced-best : (p : Problem) (w : Weights) (routes : Routes) (best new : Option Best) → IsTrue (is_feasible p routes) →
    new ≡ (if is_below_best (solution_cost p w routes) best then Some (record { routes = routes; cost = solution_cost p w routes }) else None) →
    ((if is_some new then new else best) ≡ best_after p w routes best) × (is_some new ≡ improves p w routes best)
replaced-best p w routes best new feasible e =
    replaced-by (is_feasible p routes) (is_below_best (solution_cost p w routes) best) new best (record { routes = routes; cost = solution_cost p w routes }) feasible e
