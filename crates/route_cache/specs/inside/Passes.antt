-- What the passes over a list have made at each step.
use Rattle.std.specs.Prelude.{◌≡◌, ℕ, ◌+◌, ◌≤◌, List, length, slice_index_or}
use Rattle.problem_data.specs.declared.problem.Problem.{Problem}
use Rattle.problem_data.specs.declared.problem.VehicleType.{VehicleType}
use Rattle.problem_data.specs.declared.visit.Visit.{Visit}
use Rattle.problem_data.specs.Places.{leg_duration}
use Rattle.trips.specs.RunSegments.{HoldsRun}
use Rattle.route_cache.specs.declared.forward.Forward.{Forward}
use Rattle.route_cache.specs.declared.backward.Backward.{Backward}
use Rattle.route_cache.specs.declared.mark.Mark.{Mark}
use Rattle.route_cache.specs.inside.Shapes.{front, back}
use Rattle.route_cache.specs.inside.Tables.{IsLatest, IsTable, run_of_side}
use Rattle.route_cache.specs.Marks.{IsMark, place_along}

-- marks and durations of legs from the start up to a position
pub record IsMarked (p : Problem) (t : VehicleType) (visits : List Visit) (k : ℕ) (marks : List Mark) (durations : List ℕ) : Type 0 where
  pub count : length marks ≡ k + 1
  pub count_durations : length durations ≡ k + 1
  pub each : (i : ℕ) (none : Mark) → i ≤ k → IsMark p t visits i (slice_index_or marks i none)
  pub each_duration : (i none : ℕ) → i + 1 ≤ k →
      slice_index_or durations (i + 1) none ≡ leg_duration p t.profile (place_along t visits i) (place_along t visits (i + 1))

-- so many visits behind the start are passed
pub record IsForward (p : Problem) (t : VehicleType) (visits : List Visit) (k : ℕ) (forward : Forward) : Type 0 where
  pub holds : HoldsRun p t forward.so_far (run_of_side front visits k)
  pub marked : IsMarked p t visits k forward.marks.items forward.durations.items
  pub table : IsTable p t front visits k forward.table.pieces.items forward.table.middles.items forward.table.outer
  pub latest : IsLatest front visits k forward.table.pieces.items forward.table.middles.items forward.table.outer forward.so_far.trips

-- so many visits before the end are passed
pub record IsBackward (p : Problem) (t : VehicleType) (visits : List Visit) (k : ℕ) (backward : Backward) : Type 0 where
  pub holds : HoldsRun p t backward.so_far (run_of_side back visits k)
  pub table : IsTable p t back visits k backward.table.pieces.items backward.table.middles.items backward.table.outer
  pub latest : IsLatest back visits k backward.table.pieces.items backward.table.middles.items backward.table.outer backward.so_far.trips
