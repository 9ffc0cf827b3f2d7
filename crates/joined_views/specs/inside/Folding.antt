-- Runs that are put together one behind the other.
use Rattle.std.specs.Prelude.{◌≡◌, ℕ, false, Some}
use Rattle.problem_data.specs.declared.problem.Problem.{Problem}
use Rattle.problem_data.specs.declared.problem.VehicleType.{VehicleType}
use Rattle.problem_data.specs.declared.visit.Visit.{Visit}
use Rattle.problem_data.specs.Visits.{place_of}
use Rattle.trips.specs.Joints.{first_visit, last_visit}
use Rattle.trips.specs.Laws.{IsInRange}
use Rattle.trips.specs.RunSegments.{HoldsRun}
use Rattle.trips.specs.Runs.{Run, followed_by}
use Rattle.trips.specs.declared.run_segment.RunSegment.{RunSegment}
use Rattle.joined_views.specs.declared.open_run.OpenRun.{OpenRun}
use Rattle.joined_views.specs.inside.Joined.{IsOpen}

-- some visits without the start and the end, what they add up to, and the places of the first and the last
pub record IsNext (p : Problem) (t : VehicleType) (next : RunSegment) (first last : ℕ) (run : Run) : Type 0 where
  pub holds : HoldsRun p t next run
  pub begun : run.starts ≡ false
  pub goes_on : run.ends ≡ false
  pub first_at : Visit
  pub last_at : Visit
  pub is_first : first_visit run.visits ≡ Some first_at
  pub is_last : last_visit run.visits ≡ Some last_at
  pub reached : place_of first_at ≡ first
  pub left : place_of last_at ≡ last

-- such visits may come behind an open run
pub record FollowsOpen (p : Problem) (t : VehicleType) (front : OpenRun) (next : RunSegment) (first last : ℕ) : Type 0 where
  pub left_run : Run
  pub right_run : Run
  pub is_open : IsOpen p t front left_run
  pub is_next : IsNext p t next first last right_run
  pub in_range : IsInRange p t (followed_by left_run right_run)

-- with them it is the longer run
abbrev pub Goes : Problem → VehicleType → OpenRun → RunSegment → ℕ → ℕ → OpenRun → Type 0
Goes p t front next first last longer = (x y : Run) → IsOpen p t front x → IsNext p t next first last y → IsInRange p t (followed_by x y) → IsOpen p t longer (followed_by x y)
