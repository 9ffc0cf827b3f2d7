-- What merging, releasing and loading take at least.
use Rattle.std.specs.Prelude.{ℕ, ◌≤◌, ℤ, ◌+ℤ◌, ◌≤ℤ◌, List, sum_by}
use Rattle.problem_data.specs.declared.problem.Problem.{Problem}
use Rattle.problem_data.specs.Places.{client_at}
use Rattle.routing_model.specs.Load.{trip_load}
use Rattle.segments.specs.declared.duration_segment.DurationSegment.{DurationSegment}
use Rattle.segments.specs.Duration.{merged_duration, released_from}

-- the duration isn't less than these together, nor the warp
pub record TakesAtLeast (whole : DurationSegment) (least_duration least_warp : ℤ) : Type 0 where
  pub duration : least_duration ≤ℤ whole.duration
  pub warp : least_warp ≤ℤ whole.warp

-- two runs take at least what both take and the leg between them
abbrev pub MergedDurationsAreBounded : Type 0
MergedDurationsAreBounded = (left right : DurationSegment) (gap : ℤ) →
    TakesAtLeast (merged_duration left right gap) (left.duration +ℤ right.duration +ℤ gap) (left.warp +ℤ right.warp)

-- a run that is released takes at least what it takes
abbrev pub ReleasedDurationsAreBounded : Type 0
ReleasedDurationsAreBounded = (segment : DurationSegment) (release : ℤ) → TakesAtLeast (released_from segment release) segment.duration segment.warp

-- what is on board is at one moment all deliveries, and at another all pickups
pub record CarriesAll (p : Problem) (clients : List ℕ) : Type 0 where
  pub deliveries : sum_by (λ place. (client_at p place).delivery) clients ≤ trip_load p clients
  pub pickups : sum_by (λ place. (client_at p place).pickup) clients ≤ trip_load p clients

-- a trip's load is at least all its deliveries, and at least all its pickups
abbrev pub LoadsAreBounded : Type 0
LoadsAreBounded = (p : Problem) (clients : List ℕ) → CarriesAll p clients
