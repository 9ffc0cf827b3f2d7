-- What merged and closed trips take at least.
use Rattle.std.proofs.Common.{arith}
use Rattle.std.specs.Prelude.{ℤ, pos, ◌+ℤ◌, ◌≤ℤ◌}
use Rattle.std.specs.Int.{int_max}
use Rattle.std.proofs.lemmas.Int.{ints}
use Rattle.segments.specs.declared.duration_segment.DurationSegment.{DurationSegment}
use Rattle.segments.specs.Duration.{merged_duration, released_from}
use Rattle.segments.proofs.Bounds.{merged-bounded, released-bounded}
use Rattle.trips.specs.declared.trip_segment.TripSegment.TheVariants.{Open, Split}
use Rattle.trips.specs.Bounds.{ClosedTripsAreBounded, MergedTripsAreBounded}

-- sums of what the parts take
before-added : (x y t m w l : ℤ) → ((x +ℤ y) +ℤ t) ≤ℤ m → ((x +ℤ ((y +ℤ w) +ℤ l)) +ℤ t) ≤ℤ ((m +ℤ w) +ℤ l)
before-added x y t m w l h = omega (arith, ints)

behind-added : (h w x y t m : ℤ) → ((x +ℤ y) +ℤ t) ≤ℤ m → ((((h +ℤ w) +ℤ x) +ℤ y) +ℤ t) ≤ℤ ((h +ℤ w) +ℤ m)
behind-added h w x y t m k = omega (arith, ints)

between-added : (h b x y t e l m c n k : ℤ) → ((x +ℤ y) +ℤ t) ≤ℤ m → m ≤ℤ c → ((b +ℤ c) +ℤ pos 0) ≤ℤ n → ((n +ℤ e) +ℤ pos 0) ≤ℤ k →
    ((((h +ℤ b) +ℤ x) +ℤ ((y +ℤ e) +ℤ l)) +ℤ t) ≤ℤ ((h +ℤ k) +ℤ l)
between-added h b x y t e l m c n k one two three four = omega (arith, ints)

before-warps : (x y m w l : ℤ) → (x +ℤ y) ≤ℤ m → (x +ℤ ((y +ℤ w) +ℤ l)) ≤ℤ ((m +ℤ w) +ℤ l)
before-warps x y m w l h = omega (arith, ints)

behind-warps : (h w x y m : ℤ) → (x +ℤ y) ≤ℤ m → (((h +ℤ w) +ℤ x) +ℤ y) ≤ℤ ((h +ℤ w) +ℤ m)
behind-warps h w x y m k = omega (arith, ints)

between-warps : (h b x y e l m c n k : ℤ) → (x +ℤ y) ≤ℤ m → m ≤ℤ c → (b +ℤ c) ≤ℤ n → (n +ℤ e) ≤ℤ k → (((h +ℤ b) +ℤ x) +ℤ ((y +ℤ e) +ℤ l)) ≤ℤ ((h +ℤ k) +ℤ l)
between-warps h b x y e l m c n k one two three four = omega (arith, ints)

-- merged trips
pub trips-bounded : MergedTripsAreBounded
trips-bounded (Open left) (Open right) travel capacity =
    let both = merged-bounded left.duration right.duration travel in
    record { duration = both.duration; warp = both.warp }
trips-bounded (Open left) (Split head middle tail) travel capacity =
    let both = merged-bounded left.duration head.duration travel in
    record {
      duration = before-added left.duration.duration head.duration.duration travel (merged_duration left.duration head.duration travel).duration middle.duration.duration tail.duration.duration both.duration;
      warp = before-warps left.duration.warp head.duration.warp (merged_duration left.duration head.duration travel).warp middle.duration.warp tail.duration.warp both.warp;
    }
trips-bounded (Split head middle tail) (Open right) travel capacity =
    let both = merged-bounded tail.duration right.duration travel in
    record {
      duration = behind-added head.duration.duration middle.duration.duration tail.duration.duration right.duration.duration travel (merged_duration tail.duration right.duration travel).duration both.duration;
      warp = behind-warps head.duration.warp middle.duration.warp tail.duration.warp right.duration.warp (merged_duration tail.duration right.duration travel).warp both.warp;
    }
trips-bounded (Split head before tail) (Split next behind last) travel capacity =
    let joined : DurationSegment = merged_duration tail.duration next.duration travel in
    let release = int_max tail.release next.release in
    let trip : DurationSegment = released_from joined release in
    let front : DurationSegment = merged_duration before.duration trip (pos 0) in
    let both = merged-bounded tail.duration next.duration travel in
    let closed = released-bounded joined release in
    let first = merged-bounded before.duration trip (pos 0) in
    let second = merged-bounded front behind.duration (pos 0) in
    record {
      duration = between-added head.duration.duration before.duration.duration tail.duration.duration next.duration.duration travel behind.duration.duration last.duration.duration
          joined.duration trip.duration front.duration (merged_duration front behind.duration (pos 0)).duration both.duration closed.duration first.duration second.duration;
      warp = between-warps head.duration.warp before.duration.warp tail.duration.warp next.duration.warp behind.duration.warp last.duration.warp
          joined.warp trip.warp front.warp (merged_duration front behind.duration (pos 0)).warp both.warp closed.warp first.warp second.warp;
    }

closed-added : (h m t a b c d : ℤ) → h ≤ℤ a → t ≤ℤ b → ((a +ℤ m) +ℤ pos 0) ≤ℤ c → ((c +ℤ b) +ℤ pos 0) ≤ℤ d → ((h +ℤ m) +ℤ t) ≤ℤ d
closed-added h m t a b c d one two three four = omega (arith, ints)

closed-warps : (h m t a b c d : ℤ) → h ≤ℤ a → t ≤ℤ b → (a +ℤ m) ≤ℤ c → (c +ℤ b) ≤ℤ d → ((h +ℤ m) +ℤ t) ≤ℤ d
closed-warps h m t a b c d one two three four = omega (arith, ints)

-- closed trips
pub closed-bounded : ClosedTripsAreBounded
closed-bounded (Open piece) capacity = released-bounded piece.duration piece.release
closed-bounded (Split head middle tail) capacity =
    let first : DurationSegment = released_from head.duration head.release in
    let last : DurationSegment = released_from tail.duration tail.release in
    let front : DurationSegment = merged_duration first middle.duration (pos 0) in
    let a = released-bounded head.duration head.release in
    let b = released-bounded tail.duration tail.release in
    let c = merged-bounded first middle.duration (pos 0) in
    let d = merged-bounded front last (pos 0) in
    record {
      duration = closed-added head.duration.duration middle.duration.duration tail.duration.duration first.duration last.duration front.duration
          (merged_duration front last (pos 0)).duration a.duration b.duration c.duration d.duration;
      warp = closed-warps head.duration.warp middle.duration.warp tail.duration.warp first.warp last.warp front.warp
          (merged_duration front last (pos 0)).warp a.warp b.warp c.warp d.warp;
    }
