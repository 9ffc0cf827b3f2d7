-- Segments that stand for runs of few stops can be merged and closed.
use Rattle.std.proofs.Common.{◌≡◌, List, [], ◌∷◌, ◌++◌, refl, ◌∙◌, ap, subst}
use Rattle.std.specs.Prelude.{ℤ, pos}
use Rattle.problem_data.specs.declared.problem.Problem.{Problem}
use Rattle.problem_data.specs.declared.problem.VehicleType.{VehicleType}
use Rattle.problem_data.specs.Places.{leg_duration}
use Rattle.routing_model.specs.Clock.{joint}
use Rattle.segments.specs.Totals.{IsJoint}
use Rattle.trips.specs.declared.piece.Piece.{Piece}
use Rattle.trips.specs.declared.middle.Middle.{Middle}
use Rattle.trips.specs.declared.trip_segment.TripSegment.TheVariants.{Open, Split}
use Rattle.trips.specs.Conditions.{CanMergeBetween, IsSoundSplit}
use Rattle.trips.specs.Laws.{IsInRange, RunsCanBeMerged, WholeRunsCanBeClosed}
use Rattle.trips.specs.Merging.{closed_piece, merged_middle, merged_piece}
use Rattle.trips.specs.Runs.{Run, Stretch, Follows, followed_by, run_stops, stretches, whole}
use Rattle.trips.specs.Standing.{StandsCut}
use Rattle.trips.proofs.Joining.{middles-joined, piece-closed, pieces-joined}
use Rattle.trips.proofs.Quantities.{duration-short}
use Rattle.trips.proofs.Rests.{Rests, begins, rests-front, rests-run, rests-tail}
use Rattle.trips.proofs.Sizes.{IsFew, few-back, few-front, few-run, few-tail}
use Rattle.trips.proofs.Stretches.{joined, stretches-glued}
use Rattle.trips.proofs.WholeRuns.{leg_is, regrouped, whole-begins}
use Rattle.trips.proofs.Within.{closed_piece-sound, joint-in_range, merged_middle-sound, merged_piece-sound, middles-can, piece-can_close, pieces-can}

-- the leg between two runs
abbrev travel_of : Problem → VehicleType → Run → Run → ℤ
travel_of p t x y = pos (joint (leg_duration p t.profile) (run_stops p t x) (run_stops p t y))

travel-in_range : (p : Problem) (t : VehicleType) (x y : Run) → IsInRange p t (followed_by x y) → IsJoint (travel_of p t x y)
travel-in_range p t x y h =
    joint-in_range (leg_duration p t.profile) (run_stops p t x) (run_stops p t y) (λ from to. duration-short p t from to h.is_run.valid h.is_run.allowed)

-- the stretches of both runs are few, and hand over
few-both : (p : Problem) (t : VehicleType) (x y : Run) (xs : List Stretch) → IsInRange p t (followed_by x y) → stretches p t (followed_by x y) ≡ xs → IsFew xs
few-both p t x y xs h e = subst IsFew e (few-run p t (followed_by x y) h.is_run h.few)

-- reloads on both sides
between-can : (p : Problem) (t : VehicleType) (x y : Run) (head : Piece) (before : Middle) (tail next : Piece) (behind : Middle) (last : Piece) →
    IsSoundSplit head before tail → IsSoundSplit next behind last → Follows x y → IsInRange p t (followed_by x y) →
    StandsCut p t head before tail (stretches p t x) → StandsCut p t next behind last (stretches p t y) →
    CanMergeBetween head before tail next behind last (travel_of p t x y) t.capacity
between-can p t x y head before tail next behind last sound_left sound_right h in_range left right =
    let leg = leg_duration p t.profile in
    let valid = in_range.is_run.valid in
    let allowed = in_range.is_run.allowed in
    let travel = travel_of p t x y in
    let trip = joined left.last right.first in
    let rest = right.between ++ right.last ∷ [] in
    let glue : stretches p t (followed_by x y) ≡ left.first ∷ (left.between ++ trip ∷ rest) =
    stretches-glued p t x y (left.first ∷ left.between) left.last right.first rest h left.cut right.cut in
    let cut : stretches p t (followed_by x y) ≡ left.first ∷ (((left.between ++ trip ∷ []) ++ right.between) ++ right.last ∷ []) =
    glue ∙ ap (λ (zs : List Stretch). left.first ∷ zs) (regrouped left.between trip right.between right.last) in
    let few : IsFew (trip ∷ rest) = few-back left.between (trip ∷ rest) (few-tail left.first (left.between ++ trip ∷ rest) (few-both p t x y _ in_range glue)) in
    let few_back : IsFew ((left.between ++ trip ∷ []) ++ right.between) =
    few-front ((left.between ++ trip ∷ []) ++ right.between) (right.last ∷ []) (few-tail left.first _ (few-both p t x y _ in_range cut)) in
    let few_front : IsFew (left.between ++ trip ∷ []) = few-front (left.between ++ trip ∷ []) right.between few_back in
    let departs = begins leg left.first left.between trip rest (subst (Rests leg) glue (rests-run p t (followed_by x y) in_range.is_run)) in
    let back : Rests leg ((left.between ++ trip ∷ []) ++ right.between) =
    rests-front leg ((left.between ++ trip ∷ []) ++ right.between) (right.last ∷ [])
    (rests-tail leg left.first _ (subst (Rests leg) cut (rests-run p t (followed_by x y) in_range.is_run))) in
    let front : Rests leg (left.between ++ trip ∷ []) = rests-front leg (left.between ++ trip ∷ []) right.between back in
    let there = leg_is p t x y travel (left.first ∷ left.between) left.last right.first rest h left.cut right.cut refl in
    let pieces = pieces-can p t tail next left.last right.first rest travel valid allowed sound_left.sound_tail sound_right.sound_head few (travel-in_range p t x y in_range) there left.stands_tail right.stands_head in
    let piece = merged_piece tail next travel in
    let piece_stands = pieces-joined p t tail next travel left.last right.first sound_left.sound_tail sound_right.sound_head there left.stands_tail right.stands_head in
    let piece_sound = merged_piece-sound tail next travel pieces in
    let closes = piece-can_close p t piece trip departs.0 valid allowed piece_sound (few-front (trip ∷ []) rest few) departs.1 piece_stands in
    let closed = piece-closed p t piece t.capacity trip departs.0 piece_sound refl departs.1 piece_stands in
    let closed_sound = closed_piece-sound piece t.capacity closes in
    let first = middles-can p t before (closed_piece piece t.capacity) left.between (trip ∷ []) valid allowed sound_left.sound_middle closed_sound few_front front left.stands_middle closed in
    let first_stands = middles-joined p t before (closed_piece piece t.capacity) left.between (trip ∷ []) sound_left.sound_middle closed_sound front left.stands_middle closed in
    record {
      sound_head = sound_left.sound_head;
      pieces = pieces;
      trip = closes;
      front = first;
      back = middles-can p t (merged_middle before (closed_piece piece t.capacity)) behind (left.between ++ trip ∷ []) right.between valid allowed
          (merged_middle-sound before (closed_piece piece t.capacity) first) sound_right.sound_middle few_back back first_stands right.stands_middle;
      sound_last = sound_right.sound_tail;
    }

-- segments of two runs, one behind the other, can be merged
pub runs-can : RunsCanBeMerged
runs-can p t x y (Open left) (Open right) sound_left sound_right h in_range stands_left stands_right =
    let trip = joined stands_left.only stands_right.only in
    pieces-can p t left right stands_left.only stands_right.only [] (travel_of p t x y) in_range.is_run.valid in_range.is_run.allowed sound_left sound_right
    (few-both p t x y (trip ∷ []) in_range (stretches-glued p t x y [] stands_left.only stands_right.only [] h stands_left.uncut stands_right.uncut))
    (travel-in_range p t x y in_range)
    (leg_is p t x y (travel_of p t x y) [] stands_left.only stands_right.only [] h stands_left.uncut stands_right.uncut refl)
    stands_left.stands stands_right.stands
runs-can p t x y (Open left) (Split head middle tail) sound_left sound_right h in_range stands_left stands_right =
    let rest = stands_right.between ++ stands_right.last ∷ [] in
    let trip = joined stands_left.only stands_right.first in
    record {
      pieces = pieces-can p t left head stands_left.only stands_right.first rest (travel_of p t x y) in_range.is_run.valid in_range.is_run.allowed sound_left sound_right.sound_head
          (few-both p t x y (trip ∷ rest) in_range (stretches-glued p t x y [] stands_left.only stands_right.first rest h stands_left.uncut stands_right.cut))
          (travel-in_range p t x y in_range)
          (leg_is p t x y (travel_of p t x y) [] stands_left.only stands_right.first rest h stands_left.uncut stands_right.cut refl)
          stands_left.stands stands_right.stands_head;
      sound_middle = sound_right.sound_middle;
      sound_tail = sound_right.sound_tail;
    }
runs-can p t x y (Split head middle tail) (Open right) sound_left sound_right h in_range stands_left stands_right =
    let front = stands_left.first ∷ stands_left.between in
    let trip = joined stands_left.last stands_right.only in
    record {
      sound_head = sound_left.sound_head;
      sound_middle = sound_left.sound_middle;
      pieces = pieces-can p t tail right stands_left.last stands_right.only [] (travel_of p t x y) in_range.is_run.valid in_range.is_run.allowed sound_left.sound_tail sound_right
          (few-back front (trip ∷ []) (few-both p t x y (front ++ trip ∷ []) in_range (stretches-glued p t x y front stands_left.last stands_right.only [] h stands_left.cut stands_right.uncut)))
          (travel-in_range p t x y in_range)
          (leg_is p t x y (travel_of p t x y) front stands_left.last stands_right.only [] h stands_left.cut stands_right.uncut refl)
          stands_left.stands_tail stands_right.stands;
    }
runs-can p t x y (Split head before tail) (Split next behind last) sound_left sound_right h in_range stands_left stands_right =
    between-can p t x y head before tail next behind last sound_left sound_right h in_range stands_left stands_right

-- the segment of a whole list can be closed
pub whole-can : WholeRunsCanBeClosed
whole-can p t visits (Open piece) sound in_range stands =
    let few = subst IsFew stands.uncut (few-run p t (whole visits) in_range.is_run in_range.few) in
    piece-can_close p t piece stands.only t.start in_range.is_run.valid in_range.is_run.allowed sound few (whole-begins p t visits stands.only [] stands.uncut) stands.stands
whole-can p t visits (Split head middle tail) sound in_range stands =
    let leg = leg_duration p t.profile in
    let valid = in_range.is_run.valid in
    let allowed = in_range.is_run.allowed in
    let back = stands.between ++ stands.last ∷ [] in
    let few : IsFew (stands.first ∷ back) = subst IsFew stands.cut (few-run p t (whole visits) in_range.is_run in_range.few) in
    let all : Rests leg (stands.first ∷ back) = subst (Rests leg) stands.cut (rests-run p t (whole visits) in_range.is_run) in
    let front : Rests leg (stands.first ∷ stands.between) = rests-front leg (stands.first ∷ stands.between) (stands.last ∷ []) all in
    let departs = begins leg stands.first stands.between stands.last [] all in
    let starts = whole-begins p t visits stands.first back stands.cut in
    let closes_head = piece-can_close p t head stands.first t.start valid allowed sound.sound_head (few-front (stands.first ∷ []) back few) starts stands.stands_head in
    let closes_tail = piece-can_close p t tail stands.last departs.0 valid allowed sound.sound_tail (few-back (stands.first ∷ stands.between) (stands.last ∷ []) few) departs.1 stands.stands_tail in
    let first = piece-closed p t head t.capacity stands.first t.start sound.sound_head refl starts stands.stands_head in
    let last = piece-closed p t tail t.capacity stands.last departs.0 sound.sound_tail refl departs.1 stands.stands_tail in
    let first_sound = closed_piece-sound head t.capacity closes_head in
    let most_can = middles-can p t (closed_piece head t.capacity) middle (stands.first ∷ []) stands.between valid allowed first_sound sound.sound_middle
    (few-front (stands.first ∷ stands.between) (stands.last ∷ []) few) front first stands.stands_middle in
    let most = middles-joined p t (closed_piece head t.capacity) middle (stands.first ∷ []) stands.between first_sound sound.sound_middle front first stands.stands_middle in
    record {
      closes_head = closes_head;
      closes_tail = closes_tail;
      front = most_can;
      back = middles-can p t (merged_middle (closed_piece head t.capacity) middle) (closed_piece tail t.capacity) (stands.first ∷ stands.between) (stands.last ∷ []) valid allowed
          (merged_middle-sound (closed_piece head t.capacity) middle most_can) (closed_piece-sound tail t.capacity closes_tail) few all most last;
    }
