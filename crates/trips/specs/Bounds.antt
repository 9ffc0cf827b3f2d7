-- What merged and closed trips take at least.
use Rattle.std.specs.Prelude.{ℕ, ℤ, ◌+ℤ◌, ◌≤ℤ◌}
use Rattle.segments.specs.Bounds.{TakesAtLeast}
use Rattle.trips.specs.declared.trip_segment.TripSegment.{TripSegment}
use Rattle.trips.specs.declared.trip_segment.TripSegment.TheVariants.{Open, Split}
use Rattle.trips.specs.Merging.{closed_trips, merged_trips}

-- the durations of the parts together
abbrev pub lasting : TripSegment → ℤ
lasting (Open piece) = piece.duration.duration
lasting (Split head middle tail) = head.duration.duration +ℤ middle.duration.duration +ℤ tail.duration.duration

-- the warps of the parts together
abbrev pub warping : TripSegment → ℤ
warping (Open piece) = piece.duration.warp
warping (Split head middle tail) = head.duration.warp +ℤ middle.duration.warp +ℤ tail.duration.warp

-- the parts take no less than this together
pub record PartsTakeAtLeast (segment : TripSegment) (least_duration least_warp : ℤ) : Type 0 where
  pub duration : least_duration ≤ℤ lasting segment
  pub warp : least_warp ≤ℤ warping segment

-- the parts of two segments that are merged take at least what the parts of both take, and the leg
abbrev pub MergedTripsAreBounded : Type 0
MergedTripsAreBounded = (left right : TripSegment) (travel : ℤ) (capacity : ℕ) →
    PartsTakeAtLeast (merged_trips left right travel capacity) (lasting left +ℤ lasting right +ℤ travel) (warping left +ℤ warping right)

-- a whole route takes at least what its parts take
abbrev pub ClosedTripsAreBounded : Type 0
ClosedTripsAreBounded = (segment : TripSegment) (capacity : ℕ) → TakesAtLeast (closed_trips segment capacity).duration (lasting segment) (warping segment)
