-- What is kept beside the lists of a plan, and of a problem.
use Rattle.std.specs.Prelude.{◌≡◌, Bool, List, map, nat_lt}
use Rattle.std.specs.List.{list_any}
use Rattle.problem_data.specs.declared.problem.Problem.{Problem}
use Rattle.problem_data.specs.declared.problem.VehicleType.{VehicleType}
use Rattle.problem_data.specs.Places.{place_count}
use Rattle.routing_model.specs.declared.weights.Weights.{Weights}
use Rattle.routing_model.specs.Lawful.{is_required_group}
use Rattle.route_cache.specs.Routes.{RouteState}
use Rattle.plan_tables.specs.declared.plan_tables.PlanTables.{PlanTables}
use Rattle.plan_tables.specs.declared.problem_tables.ProblemTables.{ProblemTables}
use Rattle.plan_tables.specs.Figures.{AreFigures}
use Rattle.plan_tables.specs.Routes.{lists_of}
use Rattle.plan_tables.specs.Spots.{AreSpots}
use Rattle.plan_tables.specs.Unused.{AreLeast}

-- all that is kept beside the lists
pub record HasPlanTables (p : Problem) (w : Weights) (states : List RouteState) (tables : PlanTables) : Type 0 where
  pub has_spots : AreSpots (place_count p) (lists_of states) tables.spots.items
  pub has_figures : AreFigures w states tables.sizes.items tables.rests.items tables.costs.items
  pub has_unused : AreLeast p tables.sizes.items tables.unused.items

-- whether vehicles of some type may reload
abbrev pub some_type_reloads : Problem → Bool
some_type_reloads p = list_any (λ (t : VehicleType). nat_lt 0 t.reloads) p.types

-- what is kept of the problem
pub record HasProblemTables (p : Problem) (tables : ProblemTables) : Type 0 where
  pub has_required : tables.required.items ≡ map (is_required_group p) p.groups
  pub has_reloads : tables.reload_types ≡ some_type_reloads p
