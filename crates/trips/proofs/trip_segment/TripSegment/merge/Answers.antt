use Rattle.std.proofs.Common.{◌≡◌, ℕ, ◌∙◌, ap, sym, subst, w64, FitsSigned}
use Rattle.std.specs.Prelude.{ℤ}
use Rattle.std.proofs.lemmas.Int.{to_z-of_z}
use Rattle.trips.specs.declared.piece.Piece.{Piece}
use Rattle.trips.specs.declared.middle.Middle.{Middle}
use Rattle.trips.specs.declared.trip_segment.TripSegment.{TripSegment}
use Rattle.trips.specs.declared.trip_segment.TripSegment.TheVariants.{Open, Split}
use Rattle.trips.specs.Conditions.{CanClosePiece, CanMerge, CanMergeBetween, CanMergeMiddles}
use Rattle.trips.specs.Merging.{closed_piece, merged_middle}
use Rattle.trips.specs.Standing.{JoinsRuns}
use Rattle.trips.proofs.WholeRuns.{trips-joined}
use Rattle.trips.proofs.trip_segment.TripSegment.merge.Goals as goal

-- what is asked of two that both have reloads
between : (self right : TripSegment) (head : Piece) (before : Middle) (tail next : Piece) (behind : Middle) (last : Piece) (travel : ℤ) (capacity : ℕ) →
    self ≡ Split head before tail → right ≡ Split next behind last → CanMerge self right travel capacity → CanMergeBetween head before tail next behind last travel capacity
between self right head before tail next behind last travel capacity e k h =
    subst (λ (x : TripSegment). CanMerge (Split head before tail) x travel capacity) k (subst (λ (x : TripSegment). CanMerge x right travel capacity) e h)

pub close-trip-requires : goal.close-trip-requires
close-trip-requires c =
    let fits : FitsSigned w64 c.args.travel = c.ranges.travel in
    let piece = simp to_z-of_z at c.merge-in-Split-Split.ensures.value in
    let s = c.in-Split-Split in
    subst (λ (x : Piece). CanClosePiece x c.args.capacity) (sym piece)
    (between c.args.self c.args.right s.head s.before s.tail s.next s.behind s.last c.args.travel c.args.capacity s.is-0 s.is-1 c.requires).trip

pub merge-requires-in-Split-Split-2 : goal.merge-requires-in-Split-Split-2
merge-requires-in-Split-Split-2 c =
    let fits : FitsSigned w64 c.args.travel = c.ranges.travel in
    let piece = simp to_z-of_z at c.merge-in-Split-Split.ensures.value in
    let s = c.in-Split-Split in
    subst (λ (x : Middle). CanMergeMiddles s.before x) (sym (c.close-trip.ensures.value ∙ ap (λ (x : Piece). closed_piece x c.args.capacity) piece))
    (between c.args.self c.args.right s.head s.before s.tail s.next s.behind s.last c.args.travel c.args.capacity s.is-0 s.is-1 c.requires).front

pub merge-requires-in-Split-Split-3 : goal.merge-requires-in-Split-Split-3
merge-requires-in-Split-Split-3 c =
    let fits : FitsSigned w64 c.args.travel = c.ranges.travel in
    let piece = simp to_z-of_z at c.merge-in-Split-Split.ensures.value in
    let s = c.in-Split-Split in
    let trip = c.close-trip.ensures.value ∙ ap (λ (x : Piece). closed_piece x c.args.capacity) piece in
    subst (λ (x : Middle). CanMergeMiddles x s.behind) (sym (c.merge-in-Split-Split-2.ensures.value ∙ ap (λ (x : Middle). merged_middle s.before x) trip))
    (between c.args.self c.args.right s.head s.before s.tail s.next s.behind s.last c.args.travel c.args.capacity s.is-0 s.is-1 c.requires).back

pub returns-in-Open-Open-clause-value : goal.returns-in-Open-Open-clause-value
returns-in-Open-Open-clause-value c =
    let fits : FitsSigned w64 c.args.travel = c.ranges.travel in
    let piece = simp to_z-of_z at c.merge.ensures.value in
    rw (c.in-Open-Open.is-0, c.in-Open-Open.is-1) (ap (λ (x : Piece). Open x) piece)

pub returns-in-Open-Open-clause-joins : goal.returns-in-Open-Open-clause-joins
returns-in-Open-Open-clause-joins c =
    subst (JoinsRuns c.args.self c.args.right c.args.travel c.args.capacity) (sym (returns-in-Open-Open-clause-value c))
    (trips-joined c.args.self c.args.right c.args.travel c.args.capacity c.requires)

pub returns-in-Open-Split-clause-value : goal.returns-in-Open-Split-clause-value
returns-in-Open-Split-clause-value c =
    let fits : FitsSigned w64 c.args.travel = c.ranges.travel in
    let piece = simp to_z-of_z at c.merge-in-Open-Split.ensures.value in
    let s = c.in-Open-Split in
    rw (s.is-0, s.is-1) (ap (λ (x : Piece). Split x s.middle s.tail) piece)

pub returns-in-Open-Split-clause-joins : goal.returns-in-Open-Split-clause-joins
returns-in-Open-Split-clause-joins c =
    subst (JoinsRuns c.args.self c.args.right c.args.travel c.args.capacity) (sym (returns-in-Open-Split-clause-value c))
    (trips-joined c.args.self c.args.right c.args.travel c.args.capacity c.requires)

pub returns-in-Split-Open-clause-value : goal.returns-in-Split-Open-clause-value
returns-in-Split-Open-clause-value c =
    let fits : FitsSigned w64 c.args.travel = c.ranges.travel in
    let piece = simp to_z-of_z at c.merge-in-Split-Open.ensures.value in
    let s = c.in-Split-Open in
    rw (s.is-0, s.is-1) (ap (λ (x : Piece). Split s.head s.middle x) piece)

pub returns-in-Split-Open-clause-joins : goal.returns-in-Split-Open-clause-joins
returns-in-Split-Open-clause-joins c =
    subst (JoinsRuns c.args.self c.args.right c.args.travel c.args.capacity) (sym (returns-in-Split-Open-clause-value c))
    (trips-joined c.args.self c.args.right c.args.travel c.args.capacity c.requires)

pub returns-in-Split-Split-clause-value : goal.returns-in-Split-Split-clause-value
returns-in-Split-Split-clause-value c =
    let fits : FitsSigned w64 c.args.travel = c.ranges.travel in
    let piece = simp to_z-of_z at c.merge-in-Split-Split.ensures.value in
    let s = c.in-Split-Split in
    let trip = c.close-trip.ensures.value ∙ ap (λ (x : Piece). closed_piece x c.args.capacity) piece in
    let front = c.merge-in-Split-Split-2.ensures.value ∙ ap (λ (x : Middle). merged_middle s.before x) trip in
    let middle = c.merge-in-Split-Split-3.ensures.value ∙ ap (λ (x : Middle). merged_middle x s.behind) front in
    rw (s.is-0, s.is-1) (ap (λ (x : Middle). Split s.head x s.last) middle)

pub returns-in-Split-Split-clause-joins : goal.returns-in-Split-Split-clause-joins
returns-in-Split-Split-clause-joins c =
    subst (JoinsRuns c.args.self c.args.right c.args.travel c.args.capacity) (sym (returns-in-Split-Split-clause-value c))
    (trips-joined c.args.self c.args.right c.args.travel c.args.capacity c.requires)
