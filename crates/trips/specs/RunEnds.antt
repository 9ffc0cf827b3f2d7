-- Where runs are left and reached.
use Rattle.std.specs.Prelude.{◌≡◌, Some, false}
use Rattle.problem_data.specs.declared.problem.Problem.{Problem}
use Rattle.problem_data.specs.declared.problem.VehicleType.{VehicleType}
use Rattle.problem_data.specs.declared.visit.Visit.{Visit}
use Rattle.problem_data.specs.Visits.{place_of}
use Rattle.trips.specs.Joints.{first_visit, last_visit}
use Rattle.trips.specs.RunSegments.{Leaves, Reaches}
use Rattle.trips.specs.Runs.{Run}

-- a run without its end is left at its last visit
abbrev pub RunsLeaveAtTheirLast : Type 0
RunsLeaveAtTheirLast = (p : Problem) (t : VehicleType) (run : Run) (last : Visit) → run.ends ≡ false → last_visit run.visits ≡ Some last → Leaves p t run (place_of last)

-- a run without its start is reached at its first visit
abbrev pub RunsReachTheirFirst : Type 0
RunsReachTheirFirst = (p : Problem) (t : VehicleType) (run : Run) (first : Visit) → run.starts ≡ false → first_visit run.visits ≡ Some first → Reaches p t run (place_of first)
