-- When trips are merged and closed within their range.
use Rattle.std.specs.Prelude.{ℕ, ◌≤◌, ℤ, pos, ◌+ℤ◌, ◌≤ℤ◌}
use Rattle.problem_data.specs.Limits.{largest}
use Rattle.segments.specs.Duration.{IsSoundDuration, IsWithinDuration, merged_duration, released_from}
use Rattle.segments.specs.Load.{IsSoundLoad, IsWithinLoad, merged_load}
use Rattle.segments.specs.Totals.{IsJoint, IsTotal, largest_total, latest_release}
use Rattle.trips.specs.declared.piece.Piece.{Piece}
use Rattle.trips.specs.declared.middle.Middle.{Middle}
use Rattle.trips.specs.declared.trip_segment.TripSegment.{TripSegment}
use Rattle.trips.specs.declared.trip_segment.TripSegment.TheVariants.{Open, Split}
use Rattle.trips.specs.declared.trip_segment.RouteSegment.{RouteSegment}
use Rattle.trips.specs.Merging.{closed_piece, merged_middle, merged_piece}

-- its segments are sound, and its release is from 0 to 10^12
pub record IsSoundPiece (piece : Piece) : Type 0 where
  pub duration : IsSoundDuration piece.duration
  pub load : IsSoundLoad piece.load
  pub from_0 : pos 0 ≤ℤ piece.release
  pub in_time : piece.release ≤ℤ pos latest_release

-- its segment is sound, and its excess is from 0 to 10^16
pub record IsSoundMiddle (middle : Middle) : Type 0 where
  pub duration : IsSoundDuration middle.duration
  pub excess : IsTotal middle.excess

-- the same of a route
pub record IsSoundRoute (route : RouteSegment) : Type 0 where
  pub duration : IsSoundDuration route.duration
  pub excess : IsTotal route.excess

-- all of its three parts are sound
pub record IsSoundSplit (head : Piece) (middle : Middle) (tail : Piece) : Type 0 where
  pub sound_head : IsSoundPiece head
  pub sound_middle : IsSoundMiddle middle
  pub sound_tail : IsSoundPiece tail

-- each part is sound
abbrev pub IsSoundTrips : TripSegment → Type 0
IsSoundTrips (Open piece) = IsSoundPiece piece
IsSoundTrips (Split head middle tail) = IsSoundSplit head middle tail

-- both pieces are sound, and what they add up to is within the range
pub record CanMergePieces (left right : Piece) (travel : ℤ) : Type 0 where
  pub sound_left : IsSoundPiece left
  pub sound_right : IsSoundPiece right
  pub joint : IsJoint travel
  pub duration : IsWithinDuration (merged_duration left.duration right.duration travel)
  pub load : IsWithinLoad (merged_load left.load right.load travel)

-- the piece is sound, its duration is within the range once it is released, and so is the capacity
pub record CanClosePiece (piece : Piece) (capacity : ℕ) : Type 0 where
  pub sound : IsSoundPiece piece
  pub duration : IsWithinDuration (released_from piece.duration piece.release)
  pub in_range : capacity ≤ largest

-- whole trips on both sides, whose sums are within the range
pub record CanMergeMiddles (left right : Middle) : Type 0 where
  pub sound_left : IsSoundMiddle left
  pub sound_right : IsSoundMiddle right
  pub duration : IsWithinDuration (merged_duration left.duration right.duration (pos 0))
  pub excess : (left.excess +ℤ right.excess) ≤ℤ pos largest_total

-- the left piece and the right head can be merged
pub record CanMergeBefore (left head : Piece) (middle : Middle) (tail : Piece) (travel : ℤ) : Type 0 where
  pub pieces : CanMergePieces left head travel
  pub sound_middle : IsSoundMiddle middle
  pub sound_tail : IsSoundPiece tail

-- the left tail and the right piece can be merged
pub record CanMergeBehind (head : Piece) (middle : Middle) (tail right : Piece) (travel : ℤ) : Type 0 where
  pub sound_head : IsSoundPiece head
  pub sound_middle : IsSoundMiddle middle
  pub pieces : CanMergePieces tail right travel

-- the left tail and the right head can be merged and closed, and that trip can be merged with the trips before and behind it
pub record CanMergeBetween (head : Piece) (before : Middle) (tail next : Piece) (behind : Middle) (last : Piece) (travel : ℤ) (capacity : ℕ) : Type 0 where
  pub sound_head : IsSoundPiece head
  pub pieces : CanMergePieces tail next travel
  pub trip : CanClosePiece (merged_piece tail next travel) capacity
  pub front : CanMergeMiddles before (closed_piece (merged_piece tail next travel) capacity)
  pub back : CanMergeMiddles (merged_middle before (closed_piece (merged_piece tail next travel) capacity)) behind
  pub sound_last : IsSoundPiece last

-- the two can be merged over this leg, for this capacity
abbrev pub CanMerge : TripSegment → TripSegment → ℤ → ℕ → Type 0
CanMerge (Open left) (Open right) travel capacity = CanMergePieces left right travel
CanMerge (Open left) (Split head middle tail) travel capacity = CanMergeBefore left head middle tail travel
CanMerge (Split head middle tail) (Open right) travel capacity = CanMergeBehind head middle tail right travel
CanMerge (Split head before tail) (Split next behind last) travel capacity = CanMergeBetween head before tail next behind last travel capacity

-- head and tail can be closed, and merged with the trips between them
pub record CanCloseSplit (head : Piece) (middle : Middle) (tail : Piece) (capacity : ℕ) : Type 0 where
  pub closes_head : CanClosePiece head capacity
  pub closes_tail : CanClosePiece tail capacity
  pub front : CanMergeMiddles (closed_piece head capacity) middle
  pub back : CanMergeMiddles (merged_middle (closed_piece head capacity) middle) (closed_piece tail capacity)

-- all trips can be closed and merged, for this capacity
abbrev pub CanClose : TripSegment → ℕ → Type 0
CanClose (Open piece) capacity = CanClosePiece piece capacity
CanClose (Split head middle tail) capacity = CanCloseSplit head middle tail capacity
