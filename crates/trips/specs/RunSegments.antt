-- What a run adds up to.
use Rattle.std.specs.Prelude.{◌≡◌, ℕ, ◌+◌, ◌≤◌, pos, true, false, List, [], ◌∷◌, length, slice_range, sum_by}
use Rattle.problem_data.specs.declared.problem.Problem.{Problem}
use Rattle.problem_data.specs.declared.problem.VehicleType.{VehicleType}
use Rattle.problem_data.specs.declared.visit.Visit.{Visit}
use Rattle.problem_data.specs.Places.{client_at, leg_distance, leg_duration}
use Rattle.problem_data.specs.Valid.{IsValidType}
use Rattle.routing_model.specs.Clock.{Stop, joint, last_place}
use Rattle.routing_model.specs.Routes.{clients_of}
use Rattle.segments.specs.Distance.{IsSoundDistance, IsWithinDistance, StandsForLength, merged_distance}
use Rattle.segments.specs.Totals.{IsJoint, largest_total}
use Rattle.trips.specs.Conditions.{CanMerge, IsSoundTrips}
use Rattle.trips.specs.Laws.{IsInRange}
use Rattle.trips.specs.Runs.{Run, Follows, followed_by, run_stops}
use Rattle.trips.specs.Standing.{StandsForRun}
use Rattle.trips.specs.declared.run_segment.RunSegment.{RunSegment}

-- the prizes of some visits' clients
abbrev pub prizes_of : Problem → List Visit → ℕ
prizes_of p visits = sum_by (λ place. (client_at p place).prize) (clients_of visits)

-- the segment, the distance and the prizes of a run, for a vehicle of this type
pub record HoldsRun (p : Problem) (t : VehicleType) (segment : RunSegment) (run : Run) : Type 0 where
  pub sound : IsSoundTrips segment.trips
  pub stands : StandsForRun p t segment.trips run
  pub sound_distance : IsSoundDistance segment.distance
  pub distance : StandsForLength (leg_distance p t.profile) segment.distance (run_stops p t run)
  pub prizes : segment.prizes ≡ prizes_of p run.visits

-- the numbers of both are within their range, also added up
pub record CanMergeRunSegments (left right : RunSegment) (distance duration capacity : ℕ) : Type 0 where
  pub trips : CanMerge left.trips right.trips (pos duration) capacity
  pub sound_left : IsSoundDistance left.distance
  pub sound_right : IsSoundDistance right.distance
  pub joint : IsJoint (pos distance)
  pub within : IsWithinDistance (merged_distance left.distance right.distance (pos distance))
  pub prizes : left.prizes + right.prizes ≤ largest_total

-- where two segments hold two runs, one behind the other, this one holds both
abbrev pub JoinsRunSegments : RunSegment → RunSegment → ℕ → ℕ → ℕ → RunSegment → Type 0
JoinsRunSegments left right distance duration capacity both = (p : Problem) (t : VehicleType) (x y : Run) →
    t.capacity ≡ capacity → Follows x y → IsInRange p t (followed_by x y) →
    distance ≡ joint (leg_distance p t.profile) (run_stops p t x) (run_stops p t y) →
    duration ≡ joint (leg_duration p t.profile) (run_stops p t x) (run_stops p t y) →
    HoldsRun p t left x → HoldsRun p t right y → HoldsRun p t both (followed_by x y)

-- a visit alone
abbrev pub alone : Visit → Run
alone visit = record { starts = false; visits = visit ∷ []; ends = false }

-- the start alone, and the end alone
abbrev pub start_alone : Run
start_alone = record { starts = true; visits = []; ends = false }

abbrev pub end_alone : Run
end_alone = record { starts = false; visits = []; ends = true }

-- it holds a visit alone, by each type
abbrev pub HoldsVisit : Problem → Visit → RunSegment → Type 0
HoldsVisit p visit segment = (t : VehicleType) → IsValidType p t → HoldsRun p t segment (alone visit)

-- each leg away from the run begins at this place
abbrev pub Leaves : Problem → VehicleType → Run → ℕ → Type 0
Leaves p t run place = (leg : ℕ → ℕ → ℕ) (y : Stop) (ys : List Stop) → joint leg (run_stops p t run) (y ∷ ys) ≡ leg place y.place

-- each leg to the run ends at this place
abbrev pub Reaches : Problem → VehicleType → Run → ℕ → Type 0
Reaches p t run place = (leg : ℕ → ℕ → ℕ) (x : Stop) (xs : List Stop) → joint leg (x ∷ xs) (run_stops p t run) ≡ leg (last_place x xs) place

-- the segments hold two runs, one behind the other, with the leg from this place to that one between them
pub record FitTogether (p : Problem) (t : VehicleType) (segment : RunSegment) (last : ℕ) (next : RunSegment) (first : ℕ) : Type 0 where
  pub left : Run
  pub right : Run
  pub holds_left : HoldsRun p t segment left
  pub holds_right : HoldsRun p t next right
  pub follows : Follows left right
  pub leaves : Leaves p t left last
  pub reaches : Reaches p t right first
  pub in_range : IsInRange p t (followed_by left right)

-- where the segments hold two such runs, this one holds both
abbrev pub JoinsAt : Problem → VehicleType → RunSegment → ℕ → RunSegment → ℕ → RunSegment → Type 0
JoinsAt p t segment last next first both = (x y : Run) → HoldsRun p t segment x → HoldsRun p t next y → Follows x y →
    Leaves p t x last → Reaches p t y first → IsInRange p t (followed_by x y) → HoldsRun p t both (followed_by x y)

-- the start, and the first so many visits
abbrev pub run_before : List Visit → ℕ → Run
run_before visits count = record { starts = true; visits = slice_range visits 0 count; ends = false }

-- the visits from a position on, and the end
abbrev pub run_from : List Visit → ℕ → Run
run_from visits first = record { starts = false; visits = slice_range visits first (length visits); ends = true }
