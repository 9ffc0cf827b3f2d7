-- What holds of a search's fields.
use Rattle.std.specs.Prelude.{◌≡◌, ℤ, pos, List}
use Rattle.problem_data.specs.declared.problem.Problem.{Problem}
use Rattle.routing_model.specs.declared.weights.Weights.{Weights}
use Rattle.routing_model.specs.Cost.{solution_cost}
use Rattle.route_cache.specs.Routes.{RouteState}
use Rattle.plan_tables.specs.declared.plan_tables.PlanTables.{PlanTables}
use Rattle.plan_tables.specs.declared.problem_tables.ProblemTables.{ProblemTables}
use Rattle.move_core.specs.declared.look.Look.{Look}
use Rattle.move_core.specs.Looks.{AreHopeless}
use Rattle.move_core.specs.Searches.{IsSound}
use Rattle.plan_tables.specs.Routes.{AreRoutes, lists_of}
use Rattle.plan_tables.specs.Tables.{HasPlanTables, HasProblemTables}

-- a sound search, one route for each of its lists, and what is kept beside them
pub record IsKeptPlan (p : Problem) (w : Weights) (states : List RouteState) (kept : PlanTables) : Type 0 where
  pub sound : IsSound (record { problem = p; weights = w; routes = lists_of states })
  pub has_routes : AreRoutes p states
  pub has_tables : HasPlanTables p w states kept

-- with the cost of its lists, what is kept of its problem, and what was found of a client and a neighbour
pub record IsSearch (p : Problem) (w : Weights) (states : List RouteState) (total : ℤ) (kept : PlanTables) (facts : ProblemTables) (look : Look) : Type 0 where
  pub plan : IsKeptPlan p w states kept
  pub costs_total : total ≡ pos (solution_cost p w (lists_of states))
  pub has_facts : HasProblemTables p facts
  pub is_look : AreHopeless (record { problem = p; weights = w; routes = lists_of states }) look.client look.neighbour look.hopeless
