-- What a segment of trips stands for.
use Rattle.std.specs.Prelude.{◌≡◌, ℕ, ℤ, pos, List, [], ◌∷◌, ◌++◌, flat_map, sum_by, true, false}
use Rattle.problem_data.specs.declared.problem.Problem.{Problem}
use Rattle.problem_data.specs.declared.problem.Window.{Window}
use Rattle.problem_data.specs.declared.problem.Depot.{Depot}
use Rattle.problem_data.specs.declared.problem.Client.{Client as ClientOf}
use Rattle.problem_data.specs.declared.problem.VehicleType.{VehicleType}
use Rattle.problem_data.specs.declared.visit.Visit.{Visit}
use Rattle.problem_data.specs.declared.visit.Visit.TheVariants.{Client, Reload}
use Rattle.problem_data.specs.Places.{depot_at, client_at, leg_duration}
use Rattle.routing_model.specs.Clock.{joint}
use Rattle.routing_model.specs.Load.{excess_load}
use Rattle.routing_model.specs.Stops.{met, stops}
use Rattle.segments.specs.Duration.{Stands}
use Rattle.segments.specs.Load.{StandsForLoad}
use Rattle.trips.specs.declared.piece.Piece.{Piece}
use Rattle.trips.specs.declared.middle.Middle.{Middle}
use Rattle.trips.specs.declared.trip_segment.TripSegment.{TripSegment}
use Rattle.trips.specs.declared.trip_segment.TripSegment.TheVariants.{Open, Split}
use Rattle.trips.specs.declared.trip_segment.RouteSegment.{RouteSegment}
use Rattle.trips.specs.Runs.{Run, Stretch, Follows, IsRunOf, followed_by, largest_release, run_stops, stretches, trip_excess, trip_stops, whole}

-- the drive of the stretch without its gate, the load of its clients, and their largest release
pub record StandsForStretch (p : Problem) (t : VehicleType) (piece : Piece) (stretch : Stretch) : Type 0 where
  pub duration : Stands (leg_duration p t.profile) piece.duration stretch.stops
  pub load : StandsForLoad p piece.load stretch.clients
  pub release : piece.release ≡ pos (largest_release p stretch.clients)

-- the drive of whole trips, one after the other, each with its gate, and the sum of what their loads exceed the capacity by
pub record StandsForTrips (p : Problem) (t : VehicleType) (middle : Middle) (trips : List Stretch) : Type 0 where
  pub duration : Stands (leg_duration p t.profile) middle.duration (flat_map (trip_stops p) trips)
  pub excess : middle.excess ≡ pos (sum_by (trip_excess p t) trips)

-- no reload: the piece is all of it
pub record StandsUncut (p : Problem) (t : VehicleType) (piece : Piece) (all : List Stretch) : Type 0 where
  pub only : Stretch
  pub uncut : all ≡ only ∷ []
  pub stands : StandsForStretch p t piece only

-- some reloads: the head is what lies before the first, the tail what lies behind the last, and between them are whole trips
pub record StandsCut (p : Problem) (t : VehicleType) (head : Piece) (middle : Middle) (tail : Piece) (all : List Stretch) : Type 0 where
  pub first : Stretch
  pub between : List Stretch
  pub last : Stretch
  pub cut : all ≡ first ∷ (between ++ last ∷ [])
  pub stands_head : StandsForStretch p t head first
  pub stands_middle : StandsForTrips p t middle between
  pub stands_tail : StandsForStretch p t tail last

-- the segment stands for these stretches
abbrev pub StandsForStretches : Problem → VehicleType → TripSegment → List Stretch → Type 0
StandsForStretches p t (Open piece) all = StandsUncut p t piece all
StandsForStretches p t (Split head middle tail) all = StandsCut p t head middle tail all

-- the segment stands for a run of a vehicle of this type
abbrev pub StandsForRun : Problem → VehicleType → TripSegment → Run → Type 0
StandsForRun p t segment run = StandsForStretches p t segment (stretches p t run)

-- it stands for a visit alone, by each type, where this client is there
abbrev pub StandsForClient : ClientOf → TripSegment → Type 0
StandsForClient client segment = (p : Problem) (t : VehicleType) (place : ℕ) → client_at p place ≡ client →
    StandsForRun p t segment (record { starts = false; visits = Client place ∷ []; ends = false })

-- it stands for a reload alone, by each type, where this depot is there
abbrev pub StandsForReload : Depot → TripSegment → Type 0
StandsForReload depot segment = (p : Problem) (t : VehicleType) (place : ℕ) → depot_at p place ≡ depot →
    StandsForRun p t segment (record { starts = false; visits = Reload place ∷ []; ends = false })

-- it stands for the start alone, by each type that starts at this depot in this window
abbrev pub StandsForStart : Depot → Window → TripSegment → Type 0
StandsForStart depot window segment = (p : Problem) (t : VehicleType) →
    depot_at p t.start ≡ depot → met (depot_at p t.start).window t.shift ≡ window →
    StandsForRun p t segment (record { starts = true; visits = []; ends = false })

-- it stands for the end alone, by each type that ends in this window
abbrev pub StandsForEnd : Window → TripSegment → Type 0
StandsForEnd window segment = (p : Problem) (t : VehicleType) → met (depot_at p t.end).window t.shift ≡ window →
    StandsForRun p t segment (record { starts = false; visits = []; ends = true })

-- where two segments stand for two runs, one behind the other, this one stands for both
abbrev pub JoinsRuns : TripSegment → TripSegment → ℤ → ℕ → TripSegment → Type 0
JoinsRuns left right travel capacity both = (p : Problem) (t : VehicleType) (x y : Run) →
    t.capacity ≡ capacity → Follows x y → IsRunOf p t (followed_by x y) →
    travel ≡ pos (joint (leg_duration p t.profile) (run_stops p t x) (run_stops p t y)) →
    StandsForRun p t left x → StandsForRun p t right y → StandsForRun p t both (followed_by x y)

-- the drive of all stops, each with its gate, and the excess load of all trips
pub record StandsForRoute (p : Problem) (t : VehicleType) (route : RouteSegment) (visits : List Visit) : Type 0 where
  pub duration : Stands (leg_duration p t.profile) route.duration (stops p t visits)
  pub excess : route.excess ≡ pos (excess_load p t visits)

-- where a segment stands for a whole list, this route stands for it
abbrev pub ClosesRun : TripSegment → ℕ → RouteSegment → Type 0
ClosesRun segment capacity route = (p : Problem) (t : VehicleType) (visits : List Visit) →
    t.capacity ≡ capacity → IsRunOf p t (whole visits) → StandsForRun p t segment (whole visits) → StandsForRoute p t route visits
