-- Segments of a duration: four numbers that tell what a drive of some stops takes, from every start.
use Rattle.std.specs.Prelude.{◌≡◌, ℕ, ◌+◌, ◌≤◌, ℤ, pos, ◌+ℤ◌, ◌-ℤ◌, ◌≤ℤ◌, List, [], ◌∷◌, ◌++◌, All}
use Rattle.std.specs.Int.{int_max}
use Rattle.routing_model.specs.Clock.{Stop, Drive as Walk, drive, joint, last_start, least_warp, least_duration, released_at}
use Rattle.segments.specs.declared.duration_segment.Drive.{Drive}
use Rattle.segments.specs.declared.duration_segment.DurationSegment.{DurationSegment}
use Rattle.segment_model.specs.Span.{Span, duration_from, latest_moment, merged_span, no_span, warp_from}
use Rattle.segments.specs.Totals.{IsTotal, largest_total}

-- the last stop is left at the earliest at this moment
abbrev pub earliest_end : DurationSegment → ℤ
earliest_end segment = (segment.earliest +ℤ segment.duration) -ℤ segment.warp

-- the last stop is left at the latest at this moment
abbrev pub latest_end : DurationSegment → ℤ
latest_end segment = (segment.latest +ℤ segment.duration) -ℤ segment.warp

-- its numbers are in range, and each drive ends in time
pub record IsSoundDuration (segment : DurationSegment) : Type 0 where
  pub duration : IsTotal segment.duration
  pub warp : IsTotal segment.warp
  pub begins_from_0 : pos 0 ≤ℤ segment.earliest
  pub in_order : segment.earliest ≤ℤ segment.latest
  pub begins_in_time : segment.latest ≤ℤ pos latest_moment
  pub ends_from_0 : pos 0 ≤ℤ earliest_end segment
  pub ends_in_time : latest_end segment ≤ℤ pos latest_moment

-- neither its duration nor its warp is above the most
pub record IsWithinDuration (segment : DurationSegment) : Type 0 where
  pub duration : segment.duration ≤ℤ pos largest_total
  pub warp : segment.warp ≤ℤ pos largest_total

-- its numbers
abbrev pub span_of : DurationSegment → Span
span_of segment = record { duration = segment.duration; warp = segment.warp; earliest = segment.earliest; latest = segment.latest }

-- the segment of these numbers
abbrev pub segment_of : Span → DurationSegment
segment_of span = record { duration = span.duration; warp = span.warp; earliest = span.earliest; latest = span.latest }

-- no stop
abbrev pub no_duration : DurationSegment
no_duration = segment_of no_span

-- one after the other, with the leg between them
abbrev pub merged_duration : DurationSegment → DurationSegment → ℤ → DurationSegment
merged_duration left right gap = segment_of (merged_span (span_of left) (span_of right) gap)

-- what the drive takes from a start: before the earliest it waits, and behind the latest it warps
abbrev pub at_start_of : DurationSegment → ℤ → Drive
at_start_of segment start = record { duration = duration_from (span_of segment) start; warp = warp_from (span_of segment) start }

-- the first stop isn't left before a release
abbrev pub released_from : DurationSegment → ℤ → DurationSegment
released_from segment release = record {
  duration = segment.duration;
  warp = segment.warp +ℤ int_max (release -ℤ segment.latest) (pos 0);
  earliest = int_max segment.earliest release;
  latest = int_max segment.latest release;
}

-- what a walk takes, as integers
abbrev pub drive_of : Walk → Drive
drive_of walk = record { duration = pos walk.duration; warp = pos walk.warp }

-- a stop whose numbers segments hold
pub record IsHeld (stop : Stop) : Type 0 where
  pub gate : stop.gate ≤ latest_moment
  pub in_order : stop.early ≤ stop.late
  pub in_time : stop.late + stop.service ≤ latest_moment

-- the segment is the drive of these stops from every start
pub record Stands (leg : ℕ → ℕ → ℕ) (segment : DurationSegment) (stops : List Stop) : Type 0 where
  pub held : All IsHeld stops
  pub drives : (start : ℕ) → start ≤ latest_moment → at_start_of segment (pos start) ≡ drive_of (drive leg stops start)

-- it stands for no stops
abbrev pub StandsForNothing : DurationSegment → Type 0
StandsForNothing segment = (leg : ℕ → ℕ → ℕ) → Stands leg segment []

-- it stands for the stop with these numbers, at each place
abbrev pub StandsForStop : ℕ → ℕ → ℕ → DurationSegment → Type 0
StandsForStop early late service segment = (leg : ℕ → ℕ → ℕ) (place : ℕ) →
    Stands leg segment (record { place = place; gate = 0; early = early; late = late; service = service } ∷ [])

-- where two segments stand for two lists, this one stands for both, one after the other
abbrev pub Joins : DurationSegment → DurationSegment → ℤ → DurationSegment → Type 0
Joins left right gap both = (leg : ℕ → ℕ → ℕ) (xs ys : List Stop) →
    Stands leg left xs → Stands leg right ys → gap ≡ pos (joint leg xs ys) → Stands leg both (xs ++ ys)

-- where a segment stands for some stops, this one stands for them with the first one held back until a release
abbrev pub Releases : DurationSegment → ℤ → DurationSegment → Type 0
Releases segment release later = (leg : ℕ → ℕ → ℕ) (x : Stop) (xs : List Stop) (moment : ℕ) →
    Stands leg segment (x ∷ xs) → release ≡ pos moment → Stands leg later (released_at moment (x ∷ xs))

-- this is the drive of all stops that the segment stands for
abbrev pub IsDriveOf : DurationSegment → ℤ → Drive → Type 0
IsDriveOf segment start answer = (leg : ℕ → ℕ → ℕ) (stops : List Stop) (moment : ℕ) →
    Stands leg segment stops → start ≡ pos moment → answer ≡ drive_of (drive leg stops moment)

-- a stop whose gate opens, and whose window closes, no later than the last start
pub record IsInReach (stop : Stop) : Type 0 where
  pub gate : stop.gate ≤ last_start
  pub late : stop.late ≤ last_start

-- this is the least warp of all stops that the segment stands for
abbrev pub IsLeastWarpOf : DurationSegment → ℤ → Type 0
IsLeastWarpOf segment answer = (leg : ℕ → ℕ → ℕ) (x : Stop) (xs : List Stop) →
    Stands leg segment (x ∷ xs) → IsInReach x → answer ≡ pos (least_warp leg (x ∷ xs))

-- this is the least duration of all stops that the segment stands for
abbrev pub IsLeastDurationOf : DurationSegment → ℤ → Type 0
IsLeastDurationOf segment answer = (leg : ℕ → ℕ → ℕ) (x : Stop) (xs : List Stop) →
    Stands leg segment (x ∷ xs) → IsInReach x → answer ≡ pos (least_duration leg (x ∷ xs))
