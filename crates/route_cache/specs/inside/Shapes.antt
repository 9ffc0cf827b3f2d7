-- The parts of a trip segment, seen from its front (it begins with the start) or from its back (it ends with the end): the inner piece is
-- where more visits are added, the outer one lies on the other side of all reloads.
use Rattle.std.specs.Prelude.{◌≡◌, ℕ, zero, suc, pos, List, [], ◌∷◌, ◌++◌, slice_index_or}
use Rattle.problem_data.specs.declared.visit.Visit.{Visit}
use Rattle.problem_data.specs.declared.visit.Visit.TheVariants.{Client, Reload}
use Rattle.segments.specs.Duration.{no_duration}
use Rattle.trips.specs.declared.piece.Piece.{Piece}
use Rattle.trips.specs.declared.middle.Middle.{Middle}
use Rattle.trips.specs.declared.trip_segment.TripSegment.{TripSegment}
use Rattle.trips.specs.declared.trip_segment.TripSegment.TheVariants.{Open, Split}

-- from where a segment is seen
pub data Side : Type 0 where
  front : Side
  back : Side

-- the first piece, and the last
abbrev pub head_of : TripSegment → Piece
head_of (Open piece) = piece
head_of (Split head middle tail) = head

abbrev pub tail_of : TripSegment → Piece
tail_of (Open piece) = piece
tail_of (Split head middle tail) = tail

-- no trip
abbrev pub no_trip : Middle
no_trip = record { duration = no_duration; excess = pos 0 }

-- the whole trips between both
abbrev pub middle_of : TripSegment → Middle
middle_of (Open piece) = no_trip
middle_of (Split head middle tail) = middle

-- where more visits are added, and the other side
abbrev pub inner_of : Side → TripSegment → Piece
inner_of front trips = tail_of trips
inner_of back trips = head_of trips

abbrev pub outer_of : Side → TripSegment → Piece
outer_of front trips = head_of trips
outer_of back trips = tail_of trips

-- some reloads
abbrev pub split_at : Side → Piece → Middle → Piece → TripSegment
split_at front outer middle inner = Split outer middle inner
split_at back outer middle inner = Split inner middle outer

-- behind so many reloads: the whole trips between are kept by that number
abbrev pub shaped : Side → Piece → List Middle → ℕ → Piece → TripSegment
shaped side outer middles zero inner = Open inner
shaped side outer middles (suc k) inner = split_at side outer (slice_index_or middles (suc k) no_trip) inner

-- the same with another inner piece
abbrev pub with_inner : Side → TripSegment → Piece → TripSegment
with_inner side (Open piece) inner = Open inner
with_inner front (Split head middle tail) inner = Split head middle inner
with_inner back (Split head middle tail) inner = Split inner middle tail

-- the outer piece, once there is a reload
abbrev pub outer_or : Side → TripSegment → Piece → Piece
outer_or side (Open piece) other = other
outer_or front (Split head middle tail) other = head
outer_or back (Split head middle tail) other = tail

-- what a visit more makes of a segment
abbrev pub Grows : Side → Visit → TripSegment → TripSegment → Type 0
Grows side (Client place) old new = new ≡ with_inner side old (inner_of side new)
Grows side (Reload depot) old new = new ≡ split_at side (outer_or side old (outer_of side new)) (middle_of new) (inner_of side new)

-- what is kept for it
abbrev pub grown_middles : Visit → List Middle → Middle → List Middle
grown_middles (Client place) middles middle = middles
grown_middles (Reload depot) middles middle = middles ++ middle ∷ []

abbrev pub grown_outer : Visit → Piece → Piece → Piece
grown_outer (Client place) kept outer = kept
grown_outer (Reload depot) kept outer = outer

-- how many reloads it is
abbrev pub reload_of : Visit → ℕ
reload_of (Client place) = 0
reload_of (Reload depot) = 1
