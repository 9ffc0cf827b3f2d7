-- What merging, releasing and loading take at least.
use Rattle.std.proofs.Common.{◌≡◌, ℕ, ◌+◌, ◌≤◌, List, [], ◌∷◌, arith}
use Rattle.std.specs.Prelude.{ℤ, pos, ◌+ℤ◌, ◌-ℤ◌, ◌≤ℤ◌}
use Rattle.std.specs.Int.{int_max}
use Rattle.std.proofs.lemmas.Int.{ints, clamps}
use Rattle.std.proofs.lemmas.List.Sums.{sum_by-cons}
use Rattle.problem_data.specs.declared.problem.Problem.{Problem}
use Rattle.problem_data.specs.Places.{client_at}
use Rattle.routing_model.specs.Load.{trip_load}
use Rattle.segment_model.specs.Span.{shift_of}
use Rattle.segments.specs.Duration.{span_of}
use Rattle.segments.specs.Bounds.{LoadsAreBounded, MergedDurationsAreBounded, ReleasedDurationsAreBounded}
use Rattle.segments.proofs.TripLoads.{deliveries-carried, pickups, trip_load-cons}

-- a wait or a warp more isn't less
more : (least extra : ℤ) → least ≤ℤ (least +ℤ int_max extra (pos 0))
more least extra = omega (arith, ints, clamps)

-- merged runs
pub merged-bounded : MergedDurationsAreBounded
merged-bounded left right gap = record {
  duration = more (left.duration +ℤ right.duration +ℤ gap) ((right.earliest -ℤ shift_of (span_of left) gap) -ℤ left.latest);
  warp = more (left.warp +ℤ right.warp) ((left.earliest +ℤ shift_of (span_of left) gap) -ℤ right.latest);
}

-- released runs
pub released-bounded : ReleasedDurationsAreBounded
released-bounded segment release = record { duration = omega (arith, ints); warp = more segment.warp (release -ℤ segment.latest) }

-- all pickups are on board at the end
pickups-carried : (p : Problem) (clients : List ℕ) → pickups p clients ≤ trip_load p clients
pickups-carried p [] = omega arith
pickups-carried p (place ∷ rest) =
    let joined = trip_load-cons p place rest in
    let picked : pickups p (place ∷ rest) ≡ (client_at p place).pickup + pickups p rest = sum_by-cons (λ c. (client_at p c).pickup) place rest in
    let behind = pickups-carried p rest in
    omega arith

-- loads
pub loads-bounded : LoadsAreBounded
loads-bounded p clients = record { deliveries = deliveries-carried p clients; pickups = pickups-carried p clients }
