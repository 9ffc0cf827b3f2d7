-- Two segments as one.
use Rattle.std.proofs.Common.{◌≡◌, ℕ, ◌+◌, ◌*◌, ◌≤◌, ◌++◌, refl, ◌∙◌, ap, sym, subst, arith}
use Rattle.std.specs.Prelude.{ℤ, pos, ◌≤ℤ◌}
use Rattle.std.proofs.lemmas.Int.{ints}
use Rattle.problem_data.specs.declared.problem.Problem.{Problem}
use Rattle.problem_data.specs.declared.problem.VehicleType.{VehicleType}
use Rattle.problem_data.specs.Limits.{largest, largest_leg, most_visits}
use Rattle.problem_data.specs.Places.{leg_distance, leg_duration}
use Rattle.routing_model.specs.Clock.{joint}
use Rattle.routing_model.specs.Cost.{length_of}
use Rattle.segments.specs.Distance.{IsSoundDistance, IsWithinDistance, JoinsLengths, StandsForLength, merged_distance}
use Rattle.segments.specs.Totals.{IsJoint, largest_total}
use Rattle.segments.proofs.StopLengths.{merged-joins_lengths}
use Rattle.trips.specs.Conditions.{CanMerge, IsSoundTrips}
use Rattle.trips.specs.Laws.{IsInRange}
use Rattle.trips.specs.Runs.{Run, followed_by, run_stops}
use Rattle.trips.specs.Standing.{JoinsRuns}
use Rattle.trips.proofs.InRange.{runs-can}
use Rattle.trips.proofs.Quantities.{distance-short}
use Rattle.trips.proofs.Drives.{most_stops}
use Rattle.trips.proofs.Sizes.{length-run}
use Rattle.trips.proofs.Within.{joint-in_range}
use Rattle.trips.specs.declared.run_segment.RunSegment.{RunSegment}
use Rattle.trips.specs.RunSegments.{CanMergeRunSegments, FitTogether, JoinsAt, JoinsRunSegments, prizes_of}
use Rattle.trips.proofs.RunCounts.{prizes-append, prizes-run}
use Rattle.trips.proofs.RunPlaces.{joint-at, length-bound, places-runs, same_length}

-- what the parts of two segments make holds both runs
pub run_segments-joined : (left right both : RunSegment) (distance duration capacity : ℕ) → IsSoundTrips both.trips → JoinsRuns left.trips right.trips (pos duration) capacity both.trips →
    IsSoundDistance both.distance → JoinsLengths left.distance right.distance (pos distance) both.distance → both.prizes ≡ left.prizes + right.prizes →
    JoinsRunSegments left right distance duration capacity both
run_segments-joined left right both distance duration capacity sound joins sound_distance joins_lengths prizes p t x y same follows in_range is_distance is_duration h k =
    let leg = leg_distance p t.profile in
    record {
      sound = sound;
      stands = joins p t x y same follows in_range.is_run (ap (λ (n : ℕ). pos n) is_duration) h.stands k.stands;
      sound_distance = sound_distance;
      distance = record {
        distance = (joins_lengths leg (run_stops p t x) (run_stops p t y) h.distance k.distance (ap (λ (n : ℕ). pos n) is_distance)).distance
            ∙ ap (λ (n : ℕ). pos n) (same_length leg (run_stops p t x ++ run_stops p t y) (run_stops p t (followed_by x y)) (places-runs p t x y follows));
      };
      prizes = prizes ∙ (λ i. h.prizes i + k.prizes i) ∙ sym (prizes-append p x.visits y.visits);
    }

-- the length of a run in range
pub length-run_in_range : (p : Problem) (t : VehicleType) (run : Run) → IsInRange p t run → length_of (leg_distance p t.profile) (run_stops p t run) ≤ most_stops * largest_leg
length-run_in_range p t run h =
    let a = length-bound (leg_distance p t.profile) (run_stops p t run) (λ from to. distance-short p t from to h.is_run.valid h.is_run.allowed) in
    let b = length-run p t run in
    omega (arith, h.few)

-- segments that fit together can be merged over the leg between them
pub fit-can : (p : Problem) (t : VehicleType) (segment : RunSegment) (last : ℕ) (next : RunSegment) (first : ℕ) → FitTogether p t segment last next first →
    CanMergeRunSegments segment next (leg_distance p t.profile last first) (leg_duration p t.profile last first) t.capacity
fit-can p t segment last next first fit =
    let x = fit.left in
    let y = fit.right in
    let distance = leg_distance p t.profile in
    let duration = leg_duration p t.profile in
    let both : StandsForLength distance (merged_distance segment.distance next.distance (pos (joint distance (run_stops p t x) (run_stops p t y)))) (run_stops p t x ++ run_stops p t y) =
    merged-joins_lengths segment.distance next.distance (pos (joint distance (run_stops p t x) (run_stops p t y))) _ refl
    distance (run_stops p t x) (run_stops p t y) fit.holds_left.distance fit.holds_right.distance refl in
    let same = same_length distance (run_stops p t x ++ run_stops p t y) (run_stops p t (followed_by x y)) (places-runs p t x y fit.follows) in
    let bound = length-run_in_range p t (followed_by x y) fit.in_range in
    record {
      trips = subst (λ (n : ℕ). CanMerge segment.trips next.trips (pos n) t.capacity) (joint-at p t duration x y last first fit.leaves fit.reaches)
          (runs-can p t x y segment.trips next.trips fit.holds_left.sound fit.holds_right.sound fit.follows fit.in_range fit.holds_left.stands fit.holds_right.stands);
      sound_left = fit.holds_left.sound_distance;
      sound_right = fit.holds_right.sound_distance;
      joint = subst (λ (n : ℕ). IsJoint (pos n)) (joint-at p t distance x y last first fit.leaves fit.reaches)
          (joint-in_range distance (run_stops p t x) (run_stops p t y) (λ from to. distance-short p t from to fit.in_range.is_run.valid fit.in_range.is_run.allowed));
      within = subst (λ (n : ℕ). IsWithinDistance (merged_distance segment.distance next.distance (pos n))) (joint-at p t distance x y last first fit.leaves fit.reaches)
          (record { distance = short (merged_distance segment.distance next.distance (pos (joint distance (run_stops p t x) (run_stops p t y)))).distance _ _ both.distance same bound });
      prizes = added segment.prizes next.prizes (prizes_of p x.visits) (prizes_of p y.visits) (prizes_of p (followed_by x y).visits) fit.holds_left.prizes fit.holds_right.prizes
          (prizes-append p x.visits y.visits) (prizes-run p t (followed_by x y) fit.in_range);
    }
  where
    short : (total : ℤ) (n m : ℕ) → total ≡ pos n → n ≡ m → m ≤ most_stops * largest_leg → total ≤ℤ pos largest_total
    short total n m e f h = omega (arith, ints)

    added : (a b c d e : ℕ) → a ≡ c → b ≡ d → e ≡ c + d → e ≤ most_visits * largest → a + b ≤ largest_total
    added a b c d e h k f bound = omega arith

-- segments that are merged over the leg between two runs hold both
pub joined-at : (p : Problem) (t : VehicleType) (segment : RunSegment) (last : ℕ) (next : RunSegment) (first : ℕ) (both : RunSegment) →
    JoinsRunSegments segment next (leg_distance p t.profile last first) (leg_duration p t.profile last first) t.capacity both → JoinsAt p t segment last next first both
joined-at p t segment last next first both joins x y h k follows leaves reaches in_range =
    joins p t x y refl follows in_range (sym (joint-at p t (leg_distance p t.profile) x y last first leaves reaches)) (sym (joint-at p t (leg_duration p t.profile) x y last first leaves reaches)) h k
