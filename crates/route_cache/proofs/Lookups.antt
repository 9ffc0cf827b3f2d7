-- What is looked up in a route.
use Rattle.std.proofs.Common.{◌≡◌, ℕ, ◌+◌, ◌-◌, ◌<◌, ◌≤◌, true, false, List, length, get_or, ◌∙◌, ap, sym, subst, arith, slice_range}
use Rattle.problem_data.specs.declared.problem.Problem.{Problem}
use Rattle.problem_data.specs.declared.problem.VehicleType.{VehicleType}
use Rattle.problem_data.specs.declared.visit.Visit.{Visit}
use Rattle.trips.specs.declared.piece.Piece.{Piece}
use Rattle.trips.specs.declared.trip_segment.TripSegment.{TripSegment}
use Rattle.trips.specs.RunSegments.{run_before, run_from}
use Rattle.route_cache.specs.declared.kept.Kept.{Kept}
use Rattle.route_cache.specs.declared.mark.Mark.{Mark}
use Rattle.route_cache.specs.inside.Kept.{IsKept}
use Rattle.route_cache.specs.inside.Shapes.{back, front, shaped}
use Rattle.route_cache.specs.inside.Tables.{IsBegun, TripsHold, reloads_of_side, run_of_side}
use Rattle.route_cache.specs.Marks.{reloads_in}
use Rattle.route_cache.proofs.Counting.{reloads-split}
use Rattle.route_cache.proofs.MarkFacts.{mark-read}

-- some visits aren't nothing
pub begun-some : (first k : ℕ) → first < k → IsBegun false first k
begun-some first k h = record { at_start = λ e. absurd (false-not_true e); some = λ e. h }
  where
    false-not_true : false ≡ true → ⊥
    false-not_true e = cc

module _ (p : Problem) (t : VehicleType) (visits : List Visit) (kept : Kept) (is : IsKept p t visits kept) where
  -- the reloads before a position, and behind it
  pub reloads-read : (i : ℕ) (mark : Mark) → i ≤ length visits → mark ≡ get_or kept.marks.items i mark → mark.reloads ≡ reloads_in (slice_range visits 0 i)
  reloads-read i mark h e = (mark-read p t visits kept.marks.items kept.durations.items (length visits + 1) i mark is.marked (omega arith) e).reloads

  pub reloads-behind : (i : ℕ) (mark all : Mark) → i ≤ length visits → mark ≡ get_or kept.marks.items i mark → all ≡ get_or kept.marks.items (length visits) all →
      all.reloads ≡ mark.reloads + reloads_of_side back visits (length visits - i)
  reloads-behind i mark all h e f =
      let a = reloads-read i mark h e in
      let b = reloads-read (length visits) all (omega arith) f in
      let c = reloads-split visits 0 i (length visits) (omega arith) h in
      let n : i ≡ length visits - (length visits - i) = omega arith in
      let d : reloads_in (slice_range visits i (length visits)) ≡ reloads_of_side back visits (length visits - i) = ap (λ (k : ℕ). reloads_in (slice_range visits k (length visits))) n in
      b ∙ c ∙ (λ j. sym a j + d j)

  pub before-held : (count : ℕ) (mark : Mark) (trips : TripSegment) → count ≤ length visits → mark ≡ get_or kept.marks.items count mark →
      ((none : Piece) → trips ≡ shaped front kept.before.outer kept.before.middles.items mark.reloads (get_or kept.before.pieces.items count none)) → TripsHold p t trips (run_before visits count)
  before-held count mark trips h e shape =
      let none = kept.before.outer in
      subst (λ (s : TripSegment). TripsHold p t s (run_before visits count))
      (sym (shape none ∙ ap (λ (r : ℕ). shaped front kept.before.outer kept.before.middles.items r (get_or kept.before.pieces.items count none)) (reloads-read count mark h e)))
      (is.before.each count none h)

  pub after-held : (first reloads : ℕ) (mark all : Mark) (trips : TripSegment) → first ≤ length visits → mark ≡ get_or kept.marks.items first mark → all ≡ get_or kept.marks.items (length visits) all →
      all.reloads ≡ mark.reloads + reloads →
      ((none : Piece) → trips ≡ shaped back kept.after.outer kept.after.middles.items reloads (get_or kept.after.pieces.items (length visits - first) none)) → TripsHold p t trips (run_from visits first)
  after-held first reloads mark all trips h e f g shape =
      let none = kept.after.outer in
      let k = length visits - first in
      let behind = reloads-behind first mark all h e f in
      let same : reloads ≡ reloads_of_side back visits k = omega arith in
      let n : length visits - k ≡ first = omega arith in
      subst (λ (i : ℕ). TripsHold p t trips (run_from visits i)) n
      (subst (λ (s : TripSegment). TripsHold p t s (run_of_side back visits k))
      (sym (shape none ∙ ap (λ (r : ℕ). shaped back kept.after.outer kept.after.middles.items r (get_or kept.after.pieces.items k none)) same))
      (is.after.each k none (omega arith)))
