-- Pieces and trips that stand for few modest stretches are within the range.
use Rattle.std.proofs.Common.{◌≡◌, ℕ, ◌+◌, ◌-◌, ◌*◌, ◌≤◌, List, [], ◌∷◌, ◌++◌, length, refl, arith, subst, sum_by, flat_map, Some}
use Rattle.std.specs.Prelude.{ℤ, pos, ◌≤ℤ◌}
use Rattle.std.proofs.lemmas.Int.{ints, clamps}
use Rattle.std.proofs.lemmas.List.Elements.{All-head}
use Rattle.std.proofs.lemmas.List.Sums.{sum_by-cons}
use Rattle.problem_data.specs.declared.problem.Problem.{Problem}
use Rattle.problem_data.specs.declared.problem.VehicleType.{VehicleType}
use Rattle.problem_data.specs.Limits.{largest, largest_leg, most_visits}
use Rattle.problem_data.specs.Places.{client_at, leg_duration}
use Rattle.problem_data.specs.Valid.{IsValid, IsValidType}
use Rattle.routing_model.specs.Clock.{Stop, joint, last_place}
use Rattle.routing_model.specs.Load.{largest_load, trip_load}
use Rattle.segments.specs.declared.load_segment.LoadSegment.{LoadSegment}
use Rattle.segments.specs.Duration.{IsWithinDuration}
use Rattle.segments.specs.Load.{IsWithinLoad, StandsForLoad}
use Rattle.segments.specs.Totals.{IsJoint, largest_total}
use Rattle.segments.proofs.Standing.{merged-sound, released-sound}
use Rattle.segments.proofs.TripLoads.{merged-sound_load}
use Rattle.trips.specs.declared.piece.Piece.{Piece}
use Rattle.trips.specs.declared.middle.Middle.{Middle}
use Rattle.trips.specs.Conditions.{CanClosePiece, CanMergeMiddles, CanMergePieces, IsSoundMiddle, IsSoundPiece}
use Rattle.trips.specs.Merging.{closed_piece, merged_middle, merged_piece}
use Rattle.trips.specs.Runs.{Stretch, trip_excess, trip_stops}
use Rattle.trips.specs.Standing.{StandsForStretch, StandsForTrips}
use Rattle.trips.proofs.Drives.{drive-within}
use Rattle.trips.proofs.Joining.{middles-joined, piece-closed, pieces-joined}
use Rattle.trips.proofs.Places.{first_of}
use Rattle.trips.proofs.Quantities.{duration-short, valid_client_at}
use Rattle.trips.proofs.Rests.{Rests}
use Rattle.trips.proofs.Sizes.{IsFew, IsModest, client_count, trips-count, trips-tame}
use Rattle.trips.proofs.Stretches.{joined}

-- what sound parts make is sound
pub merged_piece-sound : (left right : Piece) (travel : ℤ) → CanMergePieces left right travel → IsSoundPiece (merged_piece left right travel)
merged_piece-sound left right travel can = record {
  duration = merged-sound left.duration right.duration travel can.sound_left.duration can.sound_right.duration can.joint can.duration;
  load = merged-sound_load left.load right.load travel can.sound_left.load can.sound_right.load can.load;
  from_0 = let h = can.sound_left.from_0 in omega (arith, ints, clamps);
  in_time = let h = can.sound_left.in_time in let k = can.sound_right.in_time in omega (arith, ints, clamps);
}

pub closed_piece-sound : (piece : Piece) (capacity : ℕ) → CanClosePiece piece capacity → IsSoundMiddle (closed_piece piece capacity)
closed_piece-sound piece capacity can = record {
  duration = released-sound piece.duration piece.release can.sound.duration can.sound.from_0 can.sound.in_time can.duration;
  excess = let h = can.sound.load.load.to_largest in record { from_0 = omega (arith, ints, clamps); to_largest = omega (arith, ints, clamps) };
}

pub merged_middle-sound : (left right : Middle) → CanMergeMiddles left right → IsSoundMiddle (merged_middle left right)
merged_middle-sound left right can = record {
  duration = merged-sound left.duration right.duration (pos 0) can.sound_left.duration can.sound_right.duration (record { from_0 = omega (arith, ints); to_longest = omega (arith, ints) }) can.duration;
  excess = let h = can.sound_left.excess.from_0 in let k = can.sound_right.excess.from_0 in record { from_0 = omega (arith, ints); to_largest = can.excess };
}

deliveries-bound : (p : Problem) (clients : List ℕ) → IsValid p → sum_by (λ place. (client_at p place).delivery) clients ≤ length clients * largest
deliveries-bound p [] valid = omega arith
deliveries-bound p (place ∷ clients) valid =
    let c = valid_client_at p place valid in
    let rest = deliveries-bound p clients valid in
    let e = sum_by-cons (λ (place : ℕ). (client_at p place).delivery) place clients in
    omega (arith, c.delivery)

pickups-bound : (p : Problem) (clients : List ℕ) → IsValid p → sum_by (λ place. (client_at p place).pickup) clients ≤ length clients * largest
pickups-bound p [] valid = omega arith
pickups-bound p (place ∷ clients) valid =
    let c = valid_client_at p place valid in
    let rest = pickups-bound p clients valid in
    let e = sum_by-cons (λ (place : ℕ). (client_at p place).pickup) place clients in
    omega (arith, c.pickup)

-- Each client counts once: its delivery is on board before it, and its pickup behind it. So four loads together would stay in range, too.
load-bound : (p : Problem) (clients : List ℕ) (more : ℕ) → IsValid p →
    largest_load p clients (more + sum_by (λ place. (client_at p place).delivery) clients) ≤ more + length clients * largest
load-bound p [] more valid = omega arith
load-bound p (place ∷ clients) more valid =
    let c = valid_client_at p place valid in
    let pickup = (client_at p place).pickup in
    let delivery = (client_at p place).delivery in
    let on_board = more + sum_by (λ place. (client_at p place).delivery) (place ∷ clients) in
    let sums = sum_by-cons (λ (place : ℕ). (client_at p place).delivery) place clients in
    let next : (more + pickup) + sum_by (λ place. (client_at p place).delivery) clients ≡ on_board - delivery + pickup = omega arith in
    let rest : largest_load p clients (on_board - delivery + pickup) ≤ (more + pickup) + length clients * largest =
    subst (λ (n : ℕ). largest_load p clients n ≤ (more + pickup) + length clients * largest) next (load-bound p clients (more + pickup) valid) in
    let all = deliveries-bound p (place ∷ clients) valid in
    omega (arith, c.pickup)

pub trip_load-bound : (p : Problem) (clients : List ℕ) → IsValid p → trip_load p clients ≤ length clients * largest
trip_load-bound p clients valid =
    let deliveries = sum_by (λ place. (client_at p place).delivery) clients in
    let same : 0 + deliveries ≡ deliveries = omega arith in
    subst (λ (n : ℕ). largest_load p clients n ≤ length clients * largest) same (let h = load-bound p clients 0 valid in omega arith)

-- the load of few clients is within the range
load-within : (p : Problem) (segment : LoadSegment) (clients : List ℕ) → IsValid p → length clients ≤ most_visits → StandsForLoad p segment clients → IsWithinLoad segment
load-within p segment clients valid few h = record {
  delivery = within segment.delivery (sum_by (λ place. (client_at p place).delivery) clients) (length clients) h.delivery (deliveries-bound p clients valid) few;
  pickup = within segment.pickup (sum_by (λ place. (client_at p place).pickup) clients) (length clients) h.pickup (pickups-bound p clients valid) few;
  load = within segment.load (trip_load p clients) (length clients) h.load (trip_load-bound p clients valid) few;
}
  where
    within : (total : ℤ) (n k : ℕ) → total ≡ pos n → n ≤ k * largest → k ≤ most_visits → total ≤ℤ pos largest_total
    within total n k e h few = omega (arith, ints)

-- a piece that stands for a modest stretch
pub stretch-within : (p : Problem) (t : VehicleType) (piece : Piece) (x : Stretch) (xs : List Stretch) → IsValid p → IsValidType p t → IsFew (x ∷ xs) → StandsForStretch p t piece x →
    IsWithinDuration piece.duration × IsWithinLoad piece.load
stretch-within p t piece x xs valid allowed few h =
    let stops = sum_by-cons (λ (x : Stretch). length x.stops) x xs in
    let clients = sum_by-cons (λ (x : Stretch). length x.clients) x xs in (
      drive-within (leg_duration p t.profile) piece.duration x.stops (λ from to. duration-short p t from to valid allowed) (All-head IsModest x xs few.modest) (omega (arith, few.few)) h.duration,
      load-within p piece.load x.clients valid (omega (arith, few.few_clients)) h.load,
    )

-- the excess of some trips
pub excess-bound : (p : Problem) (t : VehicleType) (xs : List Stretch) → IsValid p → sum_by (trip_excess p t) xs ≤ client_count xs * largest
excess-bound p t [] valid = omega arith
excess-bound p t (x ∷ xs) valid =
    let rest = excess-bound p t xs valid in
    let loads = trip_load-bound p x.clients valid in
    let sums = sum_by-cons (trip_excess p t) x xs in
    let clients = sum_by-cons (λ (x : Stretch). length x.clients) x xs in
    omega arith

-- whole trips that stand for few modest ones
pub trips-within : (p : Problem) (t : VehicleType) (trips : Middle) (xs : List Stretch) → IsValid p → IsValidType p t → IsFew xs → StandsForTrips p t trips xs →
    IsWithinDuration trips.duration × (trips.excess ≤ℤ pos largest_total)
trips-within p t trips xs valid allowed few h =
    let count = trips-count p xs in
    let excess = excess-bound p t xs valid in (
      drive-within (leg_duration p t.profile) trips.duration (flat_map (trip_stops p) xs) (λ from to. duration-short p t from to valid allowed)
          (trips-tame p xs valid few.modest) (omega (arith, few.few)) h.duration,
      within trips.excess (sum_by (trip_excess p t) xs) (client_count xs) h.excess excess few.few_clients,
    )
  where
    within : (total : ℤ) (n k : ℕ) → total ≡ pos n → n ≤ k * largest → k ≤ most_visits → total ≤ℤ pos largest_total
    within total n k e h few = omega (arith, ints)

-- a leg between two lists is in range
pub joint-in_range : (leg : ℕ → ℕ → ℕ) (xs ys : List Stop) → ((from to : ℕ) → leg from to ≤ largest_leg) → IsJoint (pos (joint leg xs ys))
joint-in_range leg [] ys short = record { from_0 = omega (arith, ints); to_longest = omega (arith, ints) }
joint-in_range leg (x ∷ xs) [] short = record { from_0 = omega (arith, ints); to_longest = omega (arith, ints) }
joint-in_range leg (x ∷ xs) (y ∷ ys) short = let h = short (last_place x xs) y.place in record { from_0 = omega (arith, ints); to_longest = omega (arith, ints) }

-- two pieces can be merged, where both stand for a stretch and are few as one
pub pieces-can : (p : Problem) (t : VehicleType) (left right : Piece) (x y : Stretch) (xs : List Stretch) (travel : ℤ) → IsValid p → IsValidType p t → IsSoundPiece left → IsSoundPiece right →
    IsFew (joined x y ∷ xs) → IsJoint travel → travel ≡ pos (joint (leg_duration p t.profile) x.stops y.stops) →
    StandsForStretch p t left x → StandsForStretch p t right y → CanMergePieces left right travel
pieces-can p t left right x y xs travel valid allowed sound_left sound_right few in_range e h k =
    let both = stretch-within p t (merged_piece left right travel) (joined x y) xs valid allowed few (pieces-joined p t left right travel x y sound_left sound_right e h k) in
    record { sound_left = sound_left; sound_right = sound_right; joint = in_range; duration = both.0; load = both.1 }

-- a piece can be closed, where it stands for a trip
pub piece-can_close : (p : Problem) (t : VehicleType) (piece : Piece) (x : Stretch) (place : ℕ) → IsValid p → IsValidType p t → IsSoundPiece piece →
    IsFew (x ∷ []) → first_of x.stops ≡ Some place → StandsForStretch p t piece x → CanClosePiece piece t.capacity
piece-can_close p t piece x place valid allowed sound few begun h =
    let trip = trips-within p t (closed_piece piece t.capacity) (x ∷ []) valid allowed few (piece-closed p t piece t.capacity x place sound refl begun h) in
    record { sound = sound; duration = trip.0; in_range = allowed.capacity }

-- trips can be merged behind trips
pub middles-can : (p : Problem) (t : VehicleType) (left right : Middle) (xs ys : List Stretch) → IsValid p → IsValidType p t → IsSoundMiddle left → IsSoundMiddle right →
    IsFew (xs ++ ys) → Rests (leg_duration p t.profile) (xs ++ ys) → StandsForTrips p t left xs → StandsForTrips p t right ys → CanMergeMiddles left right
middles-can p t left right xs ys valid allowed sound_left sound_right few rests h k =
    let both = trips-within p t (merged_middle left right) (xs ++ ys) valid allowed few (middles-joined p t left right xs ys sound_left sound_right rests h k) in
    record { sound_left = sound_left; sound_right = sound_right; duration = both.0; excess = both.1 }
