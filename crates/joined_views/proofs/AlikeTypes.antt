-- What some visits without the start and the end add up to, by types of one profile.
use Rattle.std.proofs.Common.{◌≡◌, ℕ, ◌+◌, ◌-◌, ◌*◌, List, [], ◌∷◌, drop, refl, ◌∙◌, ap, subst, sym, arith}
use Rattle.std.specs.Prelude.{ℤ, pos, ◌-ℤ◌, ◌≤ℤ◌, flat_map, sum_by}
use Rattle.std.specs.Int.{int_max}
use Rattle.std.proofs.lemmas.Int.{clamps, ints}
use Rattle.std.proofs.lemmas.List.Sums.{sum_by-append, sum_by-cons}
use Rattle.problem_data.specs.declared.problem.Problem.{Problem}
use Rattle.problem_data.specs.declared.problem.VehicleType.{VehicleType}
use Rattle.problem_data.specs.declared.visit.Visit.{Visit}
use Rattle.problem_data.specs.declared.visit.Visit.TheVariants.{Client, Reload}
use Rattle.problem_data.specs.Limits.{largest, most_visits}
use Rattle.problem_data.specs.Places.{leg_distance, leg_duration}
use Rattle.routing_model.specs.Clock.{Stop}
use Rattle.routing_model.specs.Load.{first_trip, later_trips, trip_load}
use Rattle.segments.specs.Distance.{StandsForLength}
use Rattle.segments.specs.Duration.{Stands}
use Rattle.segments.specs.Totals.{IsTotal}
use Rattle.trips.specs.declared.middle.Middle.{Middle}
use Rattle.trips.specs.declared.piece.Piece.{Piece}
use Rattle.trips.specs.declared.run_segment.RunSegment.{RunSegment}
use Rattle.trips.specs.declared.trip_segment.TripSegment.{TripSegment}
use Rattle.trips.specs.declared.trip_segment.TripSegment.TheVariants.{Open, Split}
use Rattle.trips.specs.Conditions.{IsSoundTrips}
use Rattle.trips.specs.RunSegments.{HoldsRun}
use Rattle.trips.specs.Runs.{Stretch, departure_stop, first_stops, later_stretches, run_stops, stretches, trip_excess, trip_stops}
use Rattle.trips.specs.Standing.{StandsCut, StandsForRun, StandsForStretch, StandsForStretches}
use Rattle.joined_views.specs.inside.Recounts.{later_loads, visits_alone}

-- the excess load of a trip above a capacity
abbrev above : Problem → ℕ → Stretch → ℕ
above p capacity stretch = trip_load p stretch.clients - capacity

module _ (p : Problem) (t other : VehicleType) (same : other.profile ≡ t.profile) where
  stretch-alike : (piece : Piece) (x : Stretch) → StandsForStretch p t piece x → StandsForStretch p other piece x
  stretch-alike piece x h = record {
    duration = subst (λ (profile : ℕ). Stands (leg_duration p profile) piece.duration x.stops) (sym same) h.duration;
    load = h.load;
    release = h.release;
  }

  cut-alike : (head : Piece) (middle : Middle) (tail : Piece) (excess : ℤ) (all : List Stretch) → (h : StandsCut p t head middle tail all) → excess ≡ pos (sum_by (trip_excess p other) h.between) →
      StandsCut p other head (record { duration = middle.duration; excess = excess }) tail all
  cut-alike head middle tail excess all h is_excess = record {
    first = h.first;
    between = h.between;
    last = h.last;
    cut = h.cut;
    stands_head = stretch-alike head h.first h.stands_head;
    stands_middle = record {
      duration = subst (λ (profile : ℕ). Stands (leg_duration p profile) middle.duration (flat_map (trip_stops p) h.between)) (sym same) h.stands_middle.duration;
      excess = is_excess;
    };
    stands_tail = stretch-alike tail h.last h.stands_tail;
  }

  -- of one capacity, too
  stretches-alike : (segment : TripSegment) (all : List Stretch) → other.capacity ≡ t.capacity → StandsForStretches p t segment all → StandsForStretches p other segment all
  stretches-alike (Open piece) all alike h = record { only = h.only; uncut = h.uncut; stands = stretch-alike piece h.only h.stands }
  stretches-alike (Split head middle tail) all alike h =
      cut-alike head middle tail middle.excess all h (h.stands_middle.excess ∙ ap (λ (capacity : ℕ). pos (sum_by (above p capacity) h.between)) (sym alike))

  distance-alike : (segment : RunSegment) (visits : List Visit) → HoldsRun p t segment (visits_alone visits) → StandsForLength (leg_distance p other.profile) segment.distance (run_stops p other (visits_alone visits))
  distance-alike segment visits h =
      subst (λ (profile : ℕ). StandsForLength (leg_distance p profile) segment.distance (run_stops p other (visits_alone visits))) (sym same) h.distance

  pub run-alike : (segment : RunSegment) (visits : List Visit) → other.capacity ≡ t.capacity → HoldsRun p t segment (visits_alone visits) → HoldsRun p other segment (visits_alone visits)
  run-alike segment visits alike h = record {
    sound = h.sound;
    stands = stretches-alike segment.trips (stretches p other (visits_alone visits)) alike h.stands;
    sound_distance = h.sound_distance;
    distance = distance-alike segment visits h;
    prizes = h.prizes;
  }

-- the excess loads behind all reloads
later-sum : (p : Problem) (capacity : ℕ) (visits : List Visit) (behind : List Stop) → sum_by (above p capacity) (later_stretches p visits behind) ≡ later_loads p capacity visits
later-sum p capacity [] behind = refl
later-sum p capacity (Client place ∷ rest) behind = later-sum p capacity rest behind
later-sum p capacity (Reload depot ∷ rest) behind =
    sum_by-cons (above p capacity) (record { stops = departure_stop p depot ∷ first_stops p rest behind; clients = first_trip rest }) (later_stretches p rest behind)
    ∙ (ap (λ (n : ℕ). (trip_load p (first_trip rest) - capacity) + n) (later-sum p capacity rest behind)
    ∙ sym (sum_by-cons (λ (clients : List ℕ). trip_load p clients - capacity) (first_trip rest) (later_trips rest)))

-- what the whole trips of a run exceed another capacity by
module _ (p : Problem) (t other : VehicleType) (visits : List Visit) (head : Piece) (middle : Middle) (tail : Piece) (h : StandsForRun p t (Split head middle tail) (visits_alone visits)) where
  pub between-sum : (capacity : ℕ) → later_loads p capacity visits ≡ sum_by (above p capacity) h.between + above p capacity h.last
  between-sum capacity =
      sym (later-sum p capacity visits [])
      ∙ (ap (λ (xs : List Stretch). sum_by (above p capacity) (drop 1 xs)) h.cut
      ∙ (sum_by-append (above p capacity) h.between (h.last ∷ [])
      ∙ ap (λ (n : ℕ). sum_by (above p capacity) h.between + n) (sum_by-cons (above p capacity) h.last [] ∙ none (above p capacity h.last))))
    where
      none : (n : ℕ) → n + 0 ≡ n
      none n = omega arith

  -- counted anew, it holds the run for the other capacity
  pub recount-holds : (kept : RunSegment) (later rest excess : ℤ) → other.profile ≡ t.profile → HoldsRun p t kept (visits_alone visits) → IsSoundTrips (Split head middle tail) →
      later ≡ pos (later_loads p other.capacity visits) → later ≤ℤ pos (most_visits * largest) → rest ≡ int_max (tail.load.load -ℤ pos other.capacity) (pos 0) → excess ≡ later -ℤ rest →
      HoldsRun p other (record { trips = Split head (record { duration = middle.duration; excess = excess }) tail; distance = kept.distance; prizes = kept.prizes }) (visits_alone visits)
  recount-holds kept later rest excess same held sound is_later short is_open is_excess =
      let total : excess ≡ pos (sum_by (trip_excess p other) h.between) =
      left tail.load.load later rest excess (trip_load p h.last.clients) (later_loads p other.capacity visits) (sum_by (trip_excess p other) h.between) h.stands_tail.load.load is_later is_open is_excess
      (between-sum other.capacity) in
      record {
        sound = record {
          sound_head = sound.sound_head;
          sound_middle = record { duration = sound.sound_middle.duration; excess = within later rest excess tail.load.load (sum_by (trip_excess p other) h.between) total short is_open is_excess };
          sound_tail = sound.sound_tail;
        };
        stands = cut-alike p t other same head middle tail excess (stretches p other (visits_alone visits)) h total;
        sound_distance = held.sound_distance;
        distance = distance-alike p t other same kept visits held;
        prizes = held.prizes;
      }
    where
      left : (load later rest excess : ℤ) (n all between : ℕ) → load ≡ pos n → later ≡ pos all → rest ≡ int_max (load -ℤ pos other.capacity) (pos 0) → excess ≡ later -ℤ rest →
          all ≡ between + (n - other.capacity) → excess ≡ pos between
      left load later rest excess n all between is_load is_later is_open is_excess sum = omega (arith, ints, clamps)

      within : (later rest excess load : ℤ) (n : ℕ) → excess ≡ pos n → later ≤ℤ pos (most_visits * largest) → rest ≡ int_max (load -ℤ pos other.capacity) (pos 0) → excess ≡ later -ℤ rest →
          IsTotal excess
      within later rest excess load n total short is_open is_excess = record { from_0 = omega (arith, ints); to_largest = omega (arith, ints, clamps) }
