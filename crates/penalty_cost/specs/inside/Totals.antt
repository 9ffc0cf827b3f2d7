-- What a vehicle's list takes and exceeds.
use Rattle.std.specs.Prelude.{◌≡◌, ℕ, ◌+◌, ◌-◌, ◌*◌, ◌^◌, ◌≤◌, List, sum_by, zip}
use Rattle.problem_data.specs.declared.problem.Problem.{Problem}
use Rattle.problem_data.specs.declared.problem.VehicleType.{VehicleType}
use Rattle.problem_data.specs.declared.visit.Visit.{Visit}
use Rattle.problem_data.specs.Places.{fleet}
use Rattle.routing_model.specs.declared.weights.Weights.{Weights}
use Rattle.routing_model.specs.Clock.{Drive}
use Rattle.routing_model.specs.Cost.{distance, excess_time, route_cost, route_drive}
use Rattle.routing_model.specs.Load.{excess_load}
use Rattle.routing_model.specs.Routes.{Routes}
use Rattle.segments.specs.Totals.{largest_total}
use Rattle.trips.specs.Laws.{most_added}
use Rattle.penalty_cost.specs.declared.totals.Totals.{Totals}

-- the list's totals
pub record AreTotals (p : Problem) (t : VehicleType) (visits : List Visit) (totals : Totals) : Type 0 where
  pub distance : totals.distance ≡ distance p t visits
  pub duration : totals.duration ≡ (route_drive p t visits).duration
  pub warp : totals.warp ≡ (route_drive p t visits).warp
  pub excess_load : totals.excess_load ≡ excess_load p t visits

-- no total is above the most
pub record AreShort (totals : Totals) : Type 0 where
  pub distance : totals.distance ≤ largest_total
  pub duration : totals.duration ≤ largest_total
  pub warp : totals.warp ≤ largest_total
  pub excess_load : totals.excess_load ≤ largest_total

-- the drive of the totals
abbrev pub drive_of : Totals → Drive
drive_of totals = record { duration = totals.duration; warp = totals.warp }

-- what a used vehicle with these totals costs
abbrev pub cost_of : Weights → VehicleType → Totals → ℕ
cost_of w t totals =
    t.fixed + t.unit_distance * totals.distance + t.unit_duration * totals.duration
    + w.load * totals.excess_load + w.warp * excess_time t (drive_of totals) + w.distance * (totals.distance - t.max_distance)

-- the most that a vehicle costs
abbrev pub most_cost : ℕ
most_cost = 10 ^ 27

-- what the vehicles of a plan cost together
abbrev pub vehicles_cost : Problem → Weights → Routes → ℕ
vehicles_cost p w routes = sum_by (λ (v : VehicleType × List Visit). route_cost p w v.0 v.1) (zip (fleet p) routes)

-- no total is above what so many stops make
pub record AreShared (stops : ℕ) (totals : Totals) : Type 0 where
  pub distance : totals.distance ≤ stops * most_added
  pub duration : totals.duration ≤ stops * most_added
  pub warp : totals.warp ≤ stops * most_added
  pub excess_load : totals.excess_load ≤ stops * most_added
