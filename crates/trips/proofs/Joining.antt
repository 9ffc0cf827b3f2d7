-- What merging and closing stand for.
use Rattle.std.proofs.Common.{◌≡◌, ℕ, ◌+◌, ◌-◌, max, List, [], ◌∷◌, ◌++◌, refl, ap, sym, subst, flat_map, sum_by, Some, None, arith}
use Rattle.std.specs.Prelude.{ℤ, pos, ◌+ℤ◌, ◌-ℤ◌, ◌≤ℤ◌}
use Rattle.std.specs.Int.{int_max}
use Rattle.std.proofs.lemmas.Int.{ints, clamps}
use Rattle.std.proofs.lemmas.List.{append-nil}
use Rattle.std.proofs.lemmas.List.Concat.{flat_map-append}
use Rattle.std.proofs.lemmas.List.Sums.{sum_by-append}
use Rattle.problem_data.specs.declared.problem.Problem.{Problem}
use Rattle.problem_data.specs.declared.problem.VehicleType.{VehicleType}
use Rattle.problem_data.specs.Places.{leg_duration}
use Rattle.routing_model.specs.Clock.{Stop, joint, released_at}
use Rattle.routing_model.specs.Load.{trip_load}
use Rattle.segment_model.specs.Span.{latest_moment}
use Rattle.segments.specs.declared.duration_segment.DurationSegment.{DurationSegment}
use Rattle.segments.specs.Duration.{Stands, merged_duration, released_from}
use Rattle.segments.proofs.Standing.{merged-joins, released-releases}
use Rattle.segments.proofs.TripLoads.{merged-joins_loads}
use Rattle.trips.specs.declared.piece.Piece.{Piece}
use Rattle.trips.specs.declared.middle.Middle.{Middle}
use Rattle.trips.specs.Conditions.{IsSoundMiddle, IsSoundPiece}
use Rattle.trips.specs.Merging.{closed_piece, merged_middle, merged_piece}
use Rattle.trips.specs.Runs.{Stretch, largest_release, trip_excess, trip_stops}
use Rattle.trips.specs.Standing.{StandsForStretch, StandsForTrips}
use Rattle.trips.proofs.Places.{first_of}
use Rattle.trips.proofs.Rests.{Rests, joint-trips}
use Rattle.trips.proofs.Stretches.{joined}

-- the largest release of clients and more clients
largest_release-append : (p : Problem) (xs ys : List ℕ) → largest_release p (xs ++ ys) ≡ max (largest_release p xs) (largest_release p ys)
largest_release-append p [] ys = omega arith
largest_release-append p (place ∷ xs) ys = let e = largest_release-append p xs ys in omega arith

larger_of : (x y : ℤ) (a b c : ℕ) → x ≡ pos a → y ≡ pos b → c ≡ max a b → int_max x y ≡ pos c
larger_of x y a b c h k e = omega (arith, ints, clamps)

-- two pieces stand for two stretches as one
pub pieces-joined : (p : Problem) (t : VehicleType) (left right : Piece) (travel : ℤ) (x y : Stretch) → IsSoundPiece left → IsSoundPiece right →
    travel ≡ pos (joint (leg_duration p t.profile) x.stops y.stops) → StandsForStretch p t left x → StandsForStretch p t right y →
    StandsForStretch p t (merged_piece left right travel) (joined x y)
pieces-joined p t left right travel x y sound_left sound_right e h k = record {
  duration = merged-joins left.duration right.duration travel sound_left.duration sound_right.duration (leg_duration p t.profile) x.stops y.stops h.duration k.duration e;
  load = merged-joins_loads left.load right.load travel p x.clients y.clients h.load k.load;
  release = larger_of left.release right.release (largest_release p x.clients) (largest_release p y.clients) (largest_release p (x.clients ++ y.clients))
      h.release k.release (largest_release-append p x.clients y.clients);
}

-- whole trips stand for trips behind trips
pub middles-joined : (p : Problem) (t : VehicleType) (left right : Middle) (xs ys : List Stretch) → IsSoundMiddle left → IsSoundMiddle right →
    Rests (leg_duration p t.profile) (xs ++ ys) → StandsForTrips p t left xs → StandsForTrips p t right ys → StandsForTrips p t (merged_middle left right) (xs ++ ys)
middles-joined p t left right xs ys sound_left sound_right rests h k = record {
  duration =
      let leg = leg_duration p t.profile in
      subst (λ (stops : List Stop). Stands leg (merged_duration left.duration right.duration (pos 0)) stops) (sym (flat_map-append (trip_stops p) xs ys))
      (merged-joins left.duration right.duration (pos 0) sound_left.duration sound_right.duration leg (flat_map (trip_stops p) xs) (flat_map (trip_stops p) ys)
      h.duration k.duration (ap (λ (n : ℕ). pos n) (sym (joint-trips p leg xs ys rests))));
  excess = sums left.excess right.excess (sum_by (trip_excess p t) xs) (sum_by (trip_excess p t) ys) (sum_by (trip_excess p t) (xs ++ ys))
      h.excess k.excess (sum_by-append (trip_excess p t) xs ys);
}
  where
    sums : (x y : ℤ) (a b c : ℕ) → x ≡ pos a → y ≡ pos b → c ≡ a + b → x +ℤ y ≡ pos c
    sums x y a b c h k e = omega (arith, ints)

-- a piece that is closed stands for its trip
pub piece-closed : (p : Problem) (t : VehicleType) (piece : Piece) (capacity : ℕ) (x : Stretch) (place : ℕ) → IsSoundPiece piece → t.capacity ≡ capacity →
    first_of x.stops ≡ Some place → StandsForStretch p t piece x → StandsForTrips p t (closed_piece piece capacity) (x ∷ [])
piece-closed p t piece capacity x place sound same begun h = record {
  duration =
      let leg = leg_duration p t.profile in
      let release = largest_release p x.clients in
      subst (λ (stops : List Stop). Stands leg (released_from piece.duration piece.release) stops) (sym (append-nil (trip_stops p x)))
      (held leg piece.duration piece.release release x.stops place begun (in_time sound) h.duration h.release);
  excess = over piece.load.load (trip_load p x.clients) capacity t.capacity (sum_by (trip_excess p t) (x ∷ [])) h.load.load same refl;
}
  where
    in_time : IsSoundPiece piece → piece.release ≤ℤ pos latest_moment
    in_time sound = let h = sound.in_time in omega (arith, ints)

    held : (leg : ℕ → ℕ → ℕ) (segment : DurationSegment) (release : ℤ) (moment : ℕ) (stops : List Stop) (place : ℕ) → first_of stops ≡ Some place →
        release ≤ℤ pos latest_moment → Stands leg segment stops → release ≡ pos moment → Stands leg (released_from segment release) (released_at moment stops)
    held leg segment release moment [] place begun in_time h e = absurd (nothing begun)
      where
        nothing : None ≡ Some place → ⊥
        nothing h = cc
    held leg segment release moment (y ∷ ys) place begun in_time h e = released-releases segment release in_time leg y ys moment h e

    over : (load : ℤ) (n capacity limit sum : ℕ) → load ≡ pos n → limit ≡ capacity → sum ≡ 0 + (n - limit) → int_max (load -ℤ pos capacity) (pos 0) ≡ pos sum
    over load n capacity limit sum h e k = omega (arith, ints, clamps)
