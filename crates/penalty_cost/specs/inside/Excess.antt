-- What vehicles exceed, each and together.
use Rattle.std.specs.Prelude.{◌≡◌, ℕ, ◌+◌, ◌*◌, ◌≤◌, List, if◌then◌else◌}
use Rattle.problem_data.specs.declared.problem.Problem.{Problem}
use Rattle.problem_data.specs.declared.problem.VehicleType.{VehicleType}
use Rattle.problem_data.specs.Limits.{most_places, most_vehicles}
use Rattle.problem_data.specs.declared.visit.Visit.{Visit}
use Rattle.routing_model.specs.Cost.{excess_distance, excess_time, route_drive}
use Rattle.routing_model.specs.Load.{excess_load}
use Rattle.routing_model.specs.Routes.{is_used}
use Rattle.penalty_cost.specs.declared.excess.Excess.{Excess}
use Rattle.trips.specs.Laws.{most_added}
use Rattle.penalty_cost.specs.inside.VisitSums.{at_visits}

-- a vehicle's excess load, if it is used
abbrev pub load_of : Problem → VehicleType × List Visit → ℕ
load_of p v = if is_used v.1 then excess_load p v.0 v.1 else 0

-- its excess time, if it is used
abbrev pub time_of : Problem → VehicleType × List Visit → ℕ
time_of p v = if is_used v.1 then excess_time v.0 (route_drive p v.0 v.1) else 0

-- its excess distance, if it is used
abbrev pub distance_of : Problem → VehicleType × List Visit → ℕ
distance_of p v = if is_used v.1 then excess_distance p v.0 v.1 else 0

-- it is what the vehicle exceeds
pub record IsExcessOf (p : Problem) (t : VehicleType) (visits : List Visit) (excess : Excess) : Type 0 where
  pub load : excess.load ≡ load_of p (t, visits)
  pub time : excess.time ≡ time_of p (t, visits)
  pub distance : excess.distance ≡ distance_of p (t, visits)

-- none is above what so many stops make
pub record IsExcessWithin (stops : ℕ) (excess : Excess) : Type 0 where
  pub load : excess.load ≤ stops * most_added
  pub time : excess.time ≤ stops * most_added
  pub distance : excess.distance ≤ stops * most_added

-- how many clients a list has
abbrev pub clients_in : List Visit → ℕ
clients_in visits = at_visits (λ place. 1) visits

-- the most stops that a tidy list with these clients can have
abbrev pub stops_within : List Visit → ℕ
stops_within visits = 2 + 3 * clients_in visits

-- the most stops that the tidy lists of a plan can have together
abbrev pub most_stops : ℕ
most_stops = 2 * most_vehicles + 3 * most_places
