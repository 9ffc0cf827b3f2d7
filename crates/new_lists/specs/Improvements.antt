-- What new lists improve.
use Rattle.std.specs.Prelude.{◌≡◌, ℕ, ◌≤◌, ◌<ℤ◌, pos, List, map, Option, Some, None}
use Rattle.routing_model.specs.Cost.{solution_cost}
use Rattle.routing_model.specs.Routes.{Routes}
use Rattle.gain_model.specs.Gains.{GainSide, GainState, HasAmount, IsWithin, made, sides_of}
use Rattle.move_core.specs.Searches.{SearchState}
use Rattle.new_lists.specs.declared.new_list.NewLists.{NewLists}
use Rattle.new_lists.specs.NewLists.{plan_of, vehicles_in}

-- a gain makes a plan, which costs less; its sides are these vehicles
pub record IsGainTo (s : SearchState) (plan : Routes) (vehicles : List ℕ) (gain : GainState) : Type 0 where
  pub within : IsWithin gain s.routes
  pub makes : made gain s.routes ≡ plan
  pub amount : HasAmount s.problem s.weights s.routes gain
  pub lowers : gain.amount <ℤ pos 0
  pub sides : map (λ (side : GainSide). side.vehicle) (sides_of gain) ≡ vehicles

-- such a gain, or none where the plan costs no less
abbrev pub IsImprovementTo : SearchState → Routes → List ℕ → Option GainState → Type 0
IsImprovementTo s plan vehicles None = solution_cost s.problem s.weights s.routes ≤ solution_cost s.problem s.weights plan
IsImprovementTo s plan vehicles (Some gain) = IsGainTo s plan vehicles gain

-- of new lists
abbrev pub IsImprovement : SearchState → NewLists → Option GainState → Type 0
IsImprovement s lists found = IsImprovementTo s (plan_of s.routes lists) (vehicles_in lists) found
