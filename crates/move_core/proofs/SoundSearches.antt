-- Searches are sound when they begin, and stay so where a gain is applied.
use Rattle.std.proofs.Common.{◌≡◌, ℤ, pos, ◌+ℤ◌, ◌-ℤ◌, List, sym, ◌∙◌, ap, arith, subst, All, IsTrue, Option, Some, ℕ}
use Rattle.std.proofs.lemmas.Int.{ints}
use Rattle.problem_data.specs.declared.problem.Problem.{Problem}
use Rattle.problem_data.specs.Valid.{IsValid}
use Rattle.routing_model.specs.declared.weights.Weights.{Weights}
use Rattle.routing_model.specs.Cost.{solution_cost}
use Rattle.routing_model.specs.Lawful.{is_lawful}
use Rattle.routing_model.specs.Listed.{IsListed}
use Rattle.routing_model.specs.Routes.{Routes}
use Rattle.routing_model.proofs.LawfulFacts.{lawful-facts}
use Rattle.search_model.proofs.RunMoves.{lawful-once}
use Rattle.gain_model.specs.Gains.{GainState, HasAmount, MayBeApplied, made}
use Rattle.route_cache.specs.Routes.{RouteState}
use Rattle.route_cache.proofs.LawfulLists.{lawful-listed}
use Rattle.penalty_cost.specs.Plans.{IsDrivablePlan, IsWeighed}
use Rattle.plan_tables.specs.declared.plan_tables.PlanTables.{PlanTables}
use Rattle.move_core.specs.Searches.{IsSound}
use Rattle.move_core.specs.inside.Applying.{AreMadeRoutes}
use Rattle.plan_tables.specs.Routes.{AreRoutes, lists_of, placed}
use Rattle.move_core.specs.inside.Searches.{IsKeptPlan}
use Rattle.plan_tables.specs.Spots.{AreOnce}
use Rattle.plan_tables.specs.Tables.{HasPlanTables}
use Rattle.move_core.proofs.PlacedRoutes.{made-routes, placed-lists}

pub sound-of : (p : Problem) (w : Weights) (routes : Routes) → IsValid p → IsWeighed w → IsTrue (is_lawful p routes) → IsSound (record { problem = p; weights = w; routes = routes })
sound-of p w routes valid weighed lawful = record {
  valid = valid;
  weighed = weighed;
  lawful = lawful;
  one_list_each = (lawful-facts p routes lawful).one_list_each;
  listed = lawful-listed p routes valid lawful;
}

pub drivable-of : (p : Problem) (routes : Routes) → IsValid p → IsTrue (is_lawful p routes) → IsDrivablePlan p routes
drivable-of p routes valid lawful = record {
  one_list_each = (lawful-facts p routes lawful).one_list_each;
  listed = lawful-listed p routes valid lawful;
  at_most_once = (lawful-facts p routes lawful).visits_at_most_once;
}

module _ (p : Problem) (w : Weights) (states : List RouteState) (kept : PlanTables) (is : IsKeptPlan p w states kept) where
  -- no client stands twice
  pub once-before : AreOnce (lists_of states)
  once-before = lawful-once p (lists_of states) is.sound.lawful

  module _ (gain : GainState) (may : MayBeApplied p w (lists_of states) gain) where
    -- the lists that a gain makes can be those of vehicles
    pub gain-listed : All (IsListed p) (made gain (lists_of states))
    gain-listed = lawful-listed p (made gain (lists_of states)) is.sound.valid may.lawful

    pub once-after : (route : RouteState) (other : Option RouteState) → AreMadeRoutes p (lists_of states) gain route other → AreOnce (lists_of (placed other (placed (Some route) states)))
    once-after route other are = subst AreOnce (sym (placed-lists p states gain route other are)) (lawful-once p (made gain (lists_of states)) may.lawful)

    -- the plan that it makes, with its new routes in their places
    pub kept-after : (after : List RouteState) (kept' : PlanTables) (route : RouteState) (other : Option RouteState) → AreMadeRoutes p (lists_of states) gain route other → after ≡ placed other (placed (Some route) states) →
        HasPlanTables p w after kept' → IsKeptPlan p w after kept'
    kept-after after kept' route other are e tables =
        let lists : lists_of after ≡ made gain (lists_of states) = ap lists_of e ∙ placed-lists p states gain route other are in
        record {
          sound = sound-of p w (lists_of after) is.sound.valid is.sound.weighed (subst (λ (routes : Routes). IsTrue (is_lawful p routes)) (sym lists) may.lawful);
          has_routes = subst (λ (s : List RouteState). AreRoutes p s) (sym e) (made-routes p states gain route other are is.has_routes);
          has_tables = tables;
        }

-- the cost after a gain
added : (before after : ℕ) (total amount : ℤ) → total ≡ pos before → amount ≡ pos after -ℤ pos before → (total +ℤ amount) ≡ pos after
added before after total amount a b = omega (arith, ints)

pub cost-after : (p : Problem) (w : Weights) (routes after : Routes) (total : ℤ) (gain : GainState) → total ≡ pos (solution_cost p w routes) → HasAmount p w routes gain → after ≡ made gain routes →
    (total +ℤ gain.amount) ≡ pos (solution_cost p w after)
cost-after p w routes after total gain costs amount e =
    added (solution_cost p w routes) (solution_cost p w (made gain routes)) total gain.amount costs amount
    ∙ ap (λ (routes : Routes). pos (solution_cost p w routes)) (sym e)
