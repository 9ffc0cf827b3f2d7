-- What merging and closing segments of trips stand for, in all cases.
use Rattle.std.proofs.Common.{◌≡◌, ℕ, List, [], ◌∷◌, ◌++◌, ◌∙◌, ap, sym, subst, append_assoc, Some}
use Rattle.std.specs.Prelude.{ℤ, pos}
use Rattle.problem_data.specs.declared.problem.Problem.{Problem}
use Rattle.problem_data.specs.declared.problem.VehicleType.{VehicleType}
use Rattle.problem_data.specs.declared.visit.Visit.{Visit}
use Rattle.problem_data.specs.Places.{leg_duration}
use Rattle.routing_model.specs.Clock.{Stop, joint}
use Rattle.segments.specs.Duration.{Stands}
use Rattle.trips.specs.declared.piece.Piece.{Piece}
use Rattle.trips.specs.declared.middle.Middle.{Middle}
use Rattle.trips.specs.declared.trip_segment.TripSegment.{TripSegment}
use Rattle.trips.specs.declared.trip_segment.TripSegment.TheVariants.{Open, Split}
use Rattle.trips.specs.Conditions.{CanClose, CanMerge, CanMergeBetween}
use Rattle.trips.specs.Merging.{closed_piece, closed_trips, merged_middle, merged_piece, merged_trips, route_of}
use Rattle.trips.specs.Runs.{Run, Stretch, Follows, IsRunOf, followed_by, run_stops, stretches, whole}
use Rattle.trips.specs.Standing.{ClosesRun, JoinsRuns, StandsCut, StandsForRoute, StandsForTrips}
use Rattle.trips.proofs.Gates.{excess-run, stops-whole}
use Rattle.trips.proofs.Joining.{middles-joined, piece-closed, pieces-joined}
use Rattle.trips.proofs.Places.{first_of}
use Rattle.trips.proofs.Rests.{Rests, begins, rests-front, rests-run, rests-tail}
use Rattle.trips.proofs.Stretches.{first_of_stretches, joined, joint-runs, stretches-glued}

-- the leg between two runs is the one between the stretches that become one
pub leg_is : (p : Problem) (t : VehicleType) (x y : Run) (travel : ℤ) (front : List Stretch) (last first : Stretch) (back : List Stretch) → Follows x y →
    stretches p t x ≡ front ++ last ∷ [] → stretches p t y ≡ first ∷ back →
    travel ≡ pos (joint (leg_duration p t.profile) (run_stops p t x) (run_stops p t y)) → travel ≡ pos (joint (leg_duration p t.profile) last.stops first.stops)
leg_is p t x y travel front last first back h left right e =
    e ∙ ap (λ (n : ℕ). pos n) (joint-runs p t (leg_duration p t.profile) x y front last first back h left right)

-- the same list, grouped anew
pub regrouped : (xs : List Stretch) (j : Stretch) (ys : List Stretch) (l : Stretch) → xs ++ j ∷ (ys ++ l ∷ []) ≡ ((xs ++ j ∷ []) ++ ys) ++ l ∷ []
regrouped xs j ys l = sym (append_assoc (xs ++ j ∷ []) ys (l ∷ []) ∙ append_assoc xs (j ∷ []) (ys ++ l ∷ []))

-- reloads on both sides: the trip between them is closed
between-joined : (p : Problem) (t : VehicleType) (x y : Run) (head : Piece) (before : Middle) (tail next : Piece) (behind : Middle) (last : Piece) (travel : ℤ) (capacity : ℕ) →
    CanMergeBetween head before tail next behind last travel capacity → t.capacity ≡ capacity → Follows x y → IsRunOf p t (followed_by x y) →
    travel ≡ pos (joint (leg_duration p t.profile) (run_stops p t x) (run_stops p t y)) →
    StandsCut p t head before tail (stretches p t x) → StandsCut p t next behind last (stretches p t y) →
    StandsCut p t head (merged_middle (merged_middle before (closed_piece (merged_piece tail next travel) capacity)) behind) last (stretches p t (followed_by x y))
between-joined p t x y head before tail next behind last travel capacity can same h run e left right =
    let leg = leg_duration p t.profile in
    let trip = joined left.last right.first in
    let glue : stretches p t (followed_by x y) ≡ left.first ∷ (left.between ++ trip ∷ (right.between ++ right.last ∷ [])) =
    stretches-glued p t x y (left.first ∷ left.between) left.last right.first (right.between ++ right.last ∷ []) h left.cut right.cut in
    let cut : stretches p t (followed_by x y) ≡ left.first ∷ (((left.between ++ trip ∷ []) ++ right.between) ++ right.last ∷ []) =
    glue ∙ ap (λ (zs : List Stretch). left.first ∷ zs) (regrouped left.between trip right.between right.last) in
    let departs = begins leg left.first left.between trip (right.between ++ right.last ∷ []) (subst (Rests leg) glue (rests-run p t (followed_by x y) run)) in
    let all : Rests leg (((left.between ++ trip ∷ []) ++ right.between) ++ right.last ∷ []) =
    rests-tail leg left.first _ (subst (Rests leg) cut (rests-run p t (followed_by x y) run)) in
    let back : Rests leg ((left.between ++ trip ∷ []) ++ right.between) = rests-front leg ((left.between ++ trip ∷ []) ++ right.between) (right.last ∷ []) all in
    let front : Rests leg (left.between ++ trip ∷ []) = rests-front leg (left.between ++ trip ∷ []) right.between back in
    let piece = pieces-joined p t tail next travel left.last right.first can.pieces.sound_left can.pieces.sound_right
    (leg_is p t x y travel (left.first ∷ left.between) left.last right.first (right.between ++ right.last ∷ []) h left.cut right.cut e) left.stands_tail right.stands_head in
    let closed = piece-closed p t (merged_piece tail next travel) capacity trip departs.0 can.trip.sound same departs.1 piece in
    let first = middles-joined p t before (closed_piece (merged_piece tail next travel) capacity) left.between (trip ∷ []) can.front.sound_left can.front.sound_right front left.stands_middle closed in
    record {
      first = left.first;
      between = (left.between ++ trip ∷ []) ++ right.between;
      last = right.last;
      cut = cut;
      stands_head = left.stands_head;
      stands_middle = middles-joined p t (merged_middle before (closed_piece (merged_piece tail next travel) capacity)) behind (left.between ++ trip ∷ []) right.between
          can.back.sound_left can.back.sound_right back first right.stands_middle;
      stands_tail = right.stands_tail;
    }

-- segments of two runs, one behind the other, stand for both
pub trips-joined : (left right : TripSegment) (travel : ℤ) (capacity : ℕ) → CanMerge left right travel capacity → JoinsRuns left right travel capacity (merged_trips left right travel capacity)
trips-joined (Open left) (Open right) travel capacity can p t x y same h run e stands_left stands_right = record {
  only = joined stands_left.only stands_right.only;
  uncut = stretches-glued p t x y [] stands_left.only stands_right.only [] h stands_left.uncut stands_right.uncut;
  stands = pieces-joined p t left right travel stands_left.only stands_right.only can.sound_left can.sound_right
      (leg_is p t x y travel [] stands_left.only stands_right.only [] h stands_left.uncut stands_right.uncut e) stands_left.stands stands_right.stands;
}
trips-joined (Open left) (Split head middle tail) travel capacity can p t x y same h run e stands_left stands_right =
    let back = stands_right.between ++ stands_right.last ∷ [] in
    record {
      first = joined stands_left.only stands_right.first;
      between = stands_right.between;
      last = stands_right.last;
      cut = stretches-glued p t x y [] stands_left.only stands_right.first back h stands_left.uncut stands_right.cut;
      stands_head = pieces-joined p t left head travel stands_left.only stands_right.first can.pieces.sound_left can.pieces.sound_right
          (leg_is p t x y travel [] stands_left.only stands_right.first back h stands_left.uncut stands_right.cut e) stands_left.stands stands_right.stands_head;
      stands_middle = stands_right.stands_middle;
      stands_tail = stands_right.stands_tail;
    }
trips-joined (Split head middle tail) (Open right) travel capacity can p t x y same h run e stands_left stands_right =
    let front = stands_left.first ∷ stands_left.between in
    record {
      first = stands_left.first;
      between = stands_left.between;
      last = joined stands_left.last stands_right.only;
      cut = stretches-glued p t x y front stands_left.last stands_right.only [] h stands_left.cut stands_right.uncut;
      stands_head = stands_left.stands_head;
      stands_middle = stands_left.stands_middle;
      stands_tail = pieces-joined p t tail right travel stands_left.last stands_right.only can.pieces.sound_left can.pieces.sound_right
          (leg_is p t x y travel front stands_left.last stands_right.only [] h stands_left.cut stands_right.uncut e) stands_left.stands_tail stands_right.stands;
    }
trips-joined (Split head before tail) (Split next behind last) travel capacity can p t x y same h run e stands_left stands_right =
    between-joined p t x y head before tail next behind last travel capacity can same h run e stands_left stands_right

-- trips that stand for all stretches of a whole list are its route
route-whole : (p : Problem) (t : VehicleType) (trips : Middle) (visits : List Visit) → StandsForTrips p t trips (stretches p t (whole visits)) → StandsForRoute p t (route_of trips) visits
route-whole p t trips visits h = record {
  duration = subst (λ (stops : List Stop). Stands (leg_duration p t.profile) trips.duration stops) (stops-whole p t visits) h.duration;
  excess = h.excess ∙ ap (λ (n : ℕ). pos n) (excess-run p t (whole visits));
}

-- a whole list begins at the vehicle's start
pub whole-begins : (p : Problem) (t : VehicleType) (visits : List Visit) (first : Stretch) (xs : List Stretch) → stretches p t (whole visits) ≡ first ∷ xs → first_of first.stops ≡ Some t.start
whole-begins p t visits first xs cut = ap first_of_stretches (sym cut)

-- the segment of a whole list is closed to its route
pub trips-closed : (segment : TripSegment) (capacity : ℕ) → CanClose segment capacity → ClosesRun segment capacity (closed_trips segment capacity)
trips-closed (Open piece) capacity can p t visits same run stands =
    route-whole p t (closed_piece piece capacity) visits
    (subst (StandsForTrips p t (closed_piece piece capacity)) (sym stands.uncut)
    (piece-closed p t piece capacity stands.only t.start can.sound same (whole-begins p t visits stands.only [] stands.uncut) stands.stands))
trips-closed (Split head middle tail) capacity can p t visits same run stands =
    let leg = leg_duration p t.profile in
    let back = stands.between ++ stands.last ∷ [] in
    let all : Rests leg (stands.first ∷ back) = subst (Rests leg) stands.cut (rests-run p t (whole visits) run) in
    let front : Rests leg (stands.first ∷ stands.between) = rests-front leg (stands.first ∷ stands.between) (stands.last ∷ []) all in
    let departs = begins leg stands.first stands.between stands.last [] all in
    let first = piece-closed p t head capacity stands.first t.start can.closes_head.sound same (whole-begins p t visits stands.first back stands.cut) stands.stands_head in
    let last = piece-closed p t tail capacity stands.last departs.0 can.closes_tail.sound same departs.1 stands.stands_tail in
    let most = middles-joined p t (closed_piece head capacity) middle (stands.first ∷ []) stands.between can.front.sound_left can.front.sound_right front first stands.stands_middle in
    let trips = merged_middle (merged_middle (closed_piece head capacity) middle) (closed_piece tail capacity) in
    route-whole p t trips visits
    (subst (StandsForTrips p t trips) (sym stands.cut)
    (middles-joined p t (merged_middle (closed_piece head capacity) middle) (closed_piece tail capacity) (stands.first ∷ stands.between) (stands.last ∷ [])
    can.back.sound_left can.back.sound_right all most last))
