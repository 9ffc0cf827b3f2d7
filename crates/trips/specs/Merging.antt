-- The numbers of single stops, and what merging and closing make of them.
use Rattle.std.specs.Prelude.{ℕ, max, ℤ, pos, ◌+ℤ◌, ◌-ℤ◌}
use Rattle.std.specs.Int.{int_max}
use Rattle.problem_data.specs.declared.problem.Client.{Client}
use Rattle.problem_data.specs.declared.problem.Depot.{Depot}
use Rattle.problem_data.specs.declared.problem.Window.{Window}
use Rattle.segments.specs.declared.duration_segment.DurationSegment.{DurationSegment}
use Rattle.segments.specs.declared.load_segment.LoadSegment.{LoadSegment}
use Rattle.segments.specs.Duration.{merged_duration, no_duration, released_from}
use Rattle.segments.specs.Load.{merged_load, no_load}
use Rattle.trips.specs.declared.piece.Piece.{Piece}
use Rattle.trips.specs.declared.middle.Middle.{Middle}
use Rattle.trips.specs.declared.trip_segment.TripSegment.{TripSegment}
use Rattle.trips.specs.declared.trip_segment.TripSegment.TheVariants.{Open, Split}
use Rattle.trips.specs.declared.trip_segment.RouteSegment.{RouteSegment}

-- a stop with this window and this service: the start may be anywhere in the window
abbrev pub stop_duration : Window → ℕ → DurationSegment
stop_duration window service = record { duration = pos service; warp = pos 0; earliest = pos window.early; latest = pos window.late }

-- a stop without a client
abbrev pub stop_piece : Window → ℕ → Piece
stop_piece window service = record { duration = stop_duration window service; load = no_load; release = pos 0 }

-- a client alone
abbrev pub client_piece : Client → Piece
client_piece client = record {
  duration = stop_duration client.window client.service;
  load = record { delivery = pos client.delivery; pickup = pos client.pickup; load = pos (max client.delivery client.pickup) };
  release = pos client.release;
}

-- no trip
abbrev pub no_trip : Middle
no_trip = record { duration = no_duration; excess = pos 0 }

-- a reload alone: an arrival and a departure
abbrev pub reload_split : Depot → TripSegment
reload_split depot = Split (stop_piece depot.window 0) no_trip (stop_piece depot.window depot.service)

-- one after the other in one trip: it waits for the later of both releases
abbrev pub merged_piece : Piece → Piece → ℤ → Piece
merged_piece left right travel = record {
  duration = merged_duration left.duration right.duration travel;
  load = merged_load left.load right.load travel;
  release = int_max left.release right.release;
}

-- what the load exceeds the capacity by
abbrev pub excess_above : LoadSegment → ℕ → ℤ
excess_above load capacity = int_max (load.load -ℤ pos capacity) (pos 0)

-- a whole trip: it departs no earlier than its release
abbrev pub closed_piece : Piece → ℕ → Middle
closed_piece piece capacity = record { duration = released_from piece.duration piece.release; excess = excess_above piece.load capacity }

-- whole trips after whole trips: nothing is driven from an arrival at a depot to the departure there
abbrev pub merged_middle : Middle → Middle → Middle
merged_middle left right = record { duration = merged_duration left.duration right.duration (pos 0); excess = left.excess +ℤ right.excess }

-- one after the other: where both have reloads, what lies between the last of the left and the first of the right is one more whole trip
abbrev pub merged_trips : TripSegment → TripSegment → ℤ → ℕ → TripSegment
merged_trips (Open left) (Open right) travel capacity = Open (merged_piece left right travel)
merged_trips (Open left) (Split head middle tail) travel capacity = Split (merged_piece left head travel) middle tail
merged_trips (Split head middle tail) (Open right) travel capacity = Split head middle (merged_piece tail right travel)
merged_trips (Split head before tail) (Split next behind last) travel capacity =
    Split head (merged_middle (merged_middle before (closed_piece (merged_piece tail next travel) capacity)) behind) last

-- as a whole route
abbrev pub route_of : Middle → RouteSegment
route_of trips = record { duration = trips.duration; excess = trips.excess }

-- all trips, one after the other
abbrev pub closed_trips : TripSegment → ℕ → RouteSegment
closed_trips (Open piece) capacity = route_of (closed_piece piece capacity)
closed_trips (Split head middle tail) capacity =
    route_of (merged_middle (merged_middle (closed_piece head capacity) middle) (closed_piece tail capacity))
