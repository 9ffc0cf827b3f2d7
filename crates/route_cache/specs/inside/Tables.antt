-- What is kept of a route's beginnings and of its endings.
use Rattle.std.specs.Prelude.{◌≡◌, ℕ, ◌+◌, ◌-◌, ◌<◌, ◌≤◌, Bool, true, false, List, length, slice_range, slice_index_or}
use Rattle.problem_data.specs.declared.problem.Problem.{Problem}
use Rattle.problem_data.specs.declared.problem.VehicleType.{VehicleType}
use Rattle.problem_data.specs.declared.visit.Visit.{Visit}
use Rattle.trips.specs.declared.piece.Piece.{Piece}
use Rattle.trips.specs.declared.middle.Middle.{Middle}
use Rattle.trips.specs.declared.trip_segment.TripSegment.{TripSegment}
use Rattle.trips.specs.Conditions.{IsSoundTrips}
use Rattle.trips.specs.declared.run_segment.RunSegment.{RunSegment}
use Rattle.trips.specs.RunSegments.{HoldsRun, run_before, run_from}
use Rattle.trips.specs.Runs.{Run}
use Rattle.trips.specs.Standing.{StandsForRun}
use Rattle.route_cache.specs.inside.Shapes.{Side, front, back, shaped}
use Rattle.route_cache.specs.Marks.{reloads_in}

-- a sound segment that stands for a run
pub record TripsHold (p : Problem) (t : VehicleType) (trips : TripSegment) (run : Run) : Type 0 where
  pub sound : IsSoundTrips trips
  pub stands : StandsForRun p t trips run

-- so many visits next to the start, or next to the end
abbrev pub run_of_side : Side → List Visit → ℕ → Run
run_of_side front visits k = run_before visits k
run_of_side back visits k = run_from visits (length visits - k)

-- how many reloads are among them
abbrev pub reloads_of_side : Side → List Visit → ℕ → ℕ
reloads_of_side side visits k = reloads_in (run_of_side side visits k).visits

-- one piece for each number of visits, the whole trips for each number of reloads, and the outer piece
pub record IsTable (p : Problem) (t : VehicleType) (side : Side) (visits : List Visit) (k : ℕ) (pieces : List Piece) (middles : List Middle) (outer : Piece) : Type 0 where
  pub count : length pieces ≡ k + 1
  pub each_trip : length middles ≡ reloads_of_side side visits k + 1
  pub each : (i : ℕ) (none : Piece) → i ≤ k →
      TripsHold p t (shaped side outer middles (reloads_of_side side visits i) (slice_index_or pieces i none)) (run_of_side side visits i)

-- the segment of so many visits is what the table keeps of them
abbrev pub IsLatest : Side → List Visit → ℕ → List Piece → List Middle → Piece → TripSegment → Type 0
IsLatest side visits k pieces middles outer trips =
    (none : Piece) → trips ≡ shaped side outer middles (reloads_of_side side visits k) (slice_index_or pieces k none)

-- the visits from a position up to another, maybe behind the start
abbrev pub run_up_to : Bool → List Visit → ℕ → ℕ → Run
run_up_to starts visits first k = record { starts = starts; visits = slice_range visits first k; ends = false }

-- such a run isn't empty
pub record IsBegun (starts : Bool) (first k : ℕ) : Type 0 where
  pub at_start : starts ≡ true → first ≡ 0
  pub some : starts ≡ false → first < k

-- what such a run up to a position adds up to
pub record GoesOn (p : Problem) (t : VehicleType) (visits : List Visit) (k : ℕ) (segment : RunSegment) : Type 0 where
  pub starts : Bool
  pub first : ℕ
  pub begun : IsBegun starts first k
  pub holds : HoldsRun p t segment (run_up_to starts visits first k)
