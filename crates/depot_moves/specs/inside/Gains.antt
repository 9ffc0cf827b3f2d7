-- The gains of plans, one plan after the other.
use Rattle.std.specs.Prelude.{◌≡◌, ℕ, ◌≤◌, ◌⊎◌, false, All, IsTrue, List, Option, None, Some, filter, map}
use Rattle.list_words.specs.Order.{first_least}
use Rattle.routing_model.specs.Cost.{solution_cost}
use Rattle.routing_model.specs.Lawful.{is_lawful}
use Rattle.routing_model.specs.Routes.{Routes}
use Rattle.search_model.specs.declared.candidate.Candidate.{Candidate}
use Rattle.gain_model.specs.Gains.{GainState, made}
use Rattle.move_core.specs.Searches.{SearchState}
use Rattle.new_lists.specs.Improvements.{IsGainTo}
use Rattle.new_lists.specs.Moves.{IsVehicleOf}
use Rattle.reload_puts.specs.declared.beside.Beside.{Beside}
use Rattle.reload_puts.specs.declared.seats.Seats.{Seats}
use Rattle.reload_puts.specs.Puts.{put_plan}

-- what a plan costs
abbrev pub plan_cost : SearchState → Routes → ℕ
plan_cost s plan = solution_cost s.problem s.weights plan

-- a gain makes a lawful plan that costs less, by vehicles of a candidate
pub record IsOwnGain (s : SearchState) (candidate : Candidate) (plan : Routes) (gain : GainState) : Type 0 where
  pub lawful : IsTrue (is_lawful s.problem plan)
  pub vehicles : List ℕ
  pub own : All (IsVehicleOf s candidate) vehicles
  pub gains : IsGainTo s plan vehicles gain

-- such a gain, or none where the plan isn't lawful or costs no less
abbrev pub IsTried : SearchState → Candidate → Routes → Option GainState → Type 0
IsTried s candidate plan None = (is_lawful s.problem plan ≡ false) ⊎ (plan_cost s s.routes ≤ plan_cost s plan)
IsTried s candidate plan (Some gain) = IsOwnGain s candidate plan gain

-- the lawful ones of some plans
abbrev pub lawful_of : SearchState → List Routes → List Routes
lawful_of s plans = filter (is_lawful s.problem) plans

-- a gain makes the first lawful plan of least cost
pub record IsLeastGain (s : SearchState) (candidate : Candidate) (plans : List Routes) (gain : GainState) : Type 0 where
  pub least : first_least (plan_cost s) (lawful_of s plans) ≡ Some (made gain s.routes)
  pub gains : IsOwnGain s candidate (made gain s.routes) gain

-- such a gain, or none where each lawful plan costs no less
abbrev pub IsBest : SearchState → Candidate → List Routes → Option GainState → Type 0
IsBest s candidate plans None = All (λ plan. plan_cost s s.routes ≤ plan_cost s plan) (lawful_of s plans)
IsBest s candidate plans (Some gain) = IsLeastGain s candidate plans gain

-- the plans with a reload at each of some depots
abbrev pub put_plans : SearchState → Beside → Seats → List ℕ → List Routes
put_plans s beside seats depots = map (put_plan s beside seats.client seats.neighbour) depots
