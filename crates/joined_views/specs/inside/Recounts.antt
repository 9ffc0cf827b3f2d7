-- Excess loads of whole trips, counted anew for another capacity.
use Rattle.std.specs.Prelude.{◌≡◌, ℕ, ◌-◌, ◌*◌, pos, ◌+ℤ◌, ◌≤ℤ◌, false, List, sum_by}
use Rattle.problem_data.specs.declared.problem.Problem.{Problem}
use Rattle.problem_data.specs.declared.problem.VehicleType.{VehicleType}
use Rattle.problem_data.specs.declared.visit.Visit.{Visit}
use Rattle.problem_data.specs.Limits.{largest}
use Rattle.routing_model.specs.Load.{first_trip, later_trips, trip_load}
use Rattle.segments.specs.Load.{IsSoundLoad, StandsForLoad}
use Rattle.trips.specs.Laws.{IsInRange}
use Rattle.trips.specs.RunSegments.{HoldsRun}
use Rattle.trips.specs.Runs.{Run}
use Rattle.trips.specs.declared.run_segment.RunSegment.{RunSegment}
use Rattle.joined_views.specs.declared.later_trips.LaterTrips.{LaterTrips}

-- some visits without the start and the end
abbrev pub visits_alone : List Visit → Run
visits_alone visits = record { starts = false; visits = visits; ends = false }

-- the excess loads of the trips behind each reload
abbrev pub later_loads : Problem → ℕ → List Visit → ℕ
later_loads p capacity visits = sum_by (λ (clients : List ℕ). trip_load p clients - capacity) (later_trips visits)

-- the load of the trip that goes on before some visits, and the excess loads behind their reloads; so many visits make no more
pub record AreLater (p : Problem) (capacity count : ℕ) (visits : List Visit) (later : LaterTrips) : Type 0 where
  pub sound : IsSoundLoad later.trip
  pub stands : StandsForLoad p later.trip (first_trip visits)
  pub excess : later.excess ≡ pos (later_loads p capacity visits)
  pub short : (later.trip.load +ℤ later.excess) ≤ℤ pos (count * largest)

-- what some visits add up to by a type, adds up to this by each type of the same profile with this capacity
abbrev pub KeepsUnder : Problem → List Visit → ℕ → RunSegment → RunSegment → Type 0
KeepsUnder p visits capacity kept result = (t other : VehicleType) → other.profile ≡ t.profile → other.capacity ≡ capacity → HoldsRun p t kept (visits_alone visits) →
    HoldsRun p other result (visits_alone visits)

-- it is what some visits of a valid problem add up to, by some type
pub record IsKeptRun (p : Problem) (visits : List Visit) (kept : RunSegment) : Type 0 where
  pub by_type : VehicleType
  pub in_range : IsInRange p by_type (visits_alone visits)
  pub holds : HoldsRun p by_type kept (visits_alone visits)
