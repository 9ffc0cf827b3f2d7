-- What segments stand for, and what merging and releasing make of it.
use Rattle.std.proofs.Common.{◌≡◌, ℕ, ◌+◌, ◌-◌, ◌≤◌, ◌⊎◌, inl, inr, max, List, [], ◌∷◌, ◌++◌, refl, sym, ◌∙◌, ap, subst, arith}
use Rattle.std.specs.Prelude.{All, ℤ, pos, ◌≤ℤ◌}
use Rattle.std.proofs.lemmas.List.Elements.{All-append, All-cons, All-head, All-tail}
use Rattle.std.proofs.lemmas.Int.{ints, clamps}
use Rattle.routing_model.specs.Clock.{Stop, Clock, Drive as Walk, IsBestDrive, best_drive, drive, joint, last_start, released_at, walked}
use Rattle.routing_model.proofs.BestDrive.{best_drive-unique}
use Rattle.routing_model.proofs.Walks.{started, walked-time}
use Rattle.segment_model.specs.Span.{latest_moment}
use Rattle.segment_model.proofs.SpanLaws.{merged_span-in_order}
use Rattle.segments.specs.declared.duration_segment.Drive.{Drive}
use Rattle.segments.specs.declared.duration_segment.DurationSegment.{DurationSegment}
use Rattle.segments.specs.Duration.{IsDriveOf, IsHeld, IsInReach, IsLeastDurationOf, IsLeastWarpOf, IsSoundDuration, IsWithinDuration, Joins, Releases, Stands, at_start_of, merged_duration, released_from, span_of}
use Rattle.segments.specs.Totals.{IsJoint, latest_release}
use Rattle.segments.proofs.Starts.{Takes, end-bound, latest_has_passed, natural, takes-least_duration, takes-least_warp, takes_at_earliest, takes_both, takes_later, takes_released}
use Rattle.segments.proofs.Walking.{shifted, walked-joined, walked-late, walked-released}

-- the drive of some stops from a start, as the segment tells it
abbrev Tells : (ℕ → ℕ → ℕ) → DurationSegment → List Stop → ℕ → Type 0
Tells leg segment stops start = Takes (span_of segment) start (drive leg stops start).duration (drive leg stops start).warp

tells-in_time : (leg : ℕ → ℕ → ℕ) (segment : DurationSegment) (stops : List Stop) (start : ℕ) → Stands leg segment stops → start ≤ latest_moment → Tells leg segment stops start
tells-in_time leg segment stops start h in_time = record {
  duration = ap (λ (d : Drive). d.duration) (h.drives start in_time);
  warp = ap (λ (d : Drive). d.warp) (h.drives start in_time);
}

-- a segment that tells every drive stands for the stops
stands_from_tells : (leg : ℕ → ℕ → ℕ) (segment : DurationSegment) (stops : List Stop) → All IsHeld stops → ((start : ℕ) → start ≤ latest_moment → Tells leg segment stops start) →
    Stands leg segment stops
stands_from_tells leg segment stops held tells = record {
  held = held;
  drives = λ start in_time. λ i. record { duration = (tells start in_time).duration i; warp = (tells start in_time).warp i };
}

-- what a walk shows that began with so much duration and warp
drive-shifted : (leg : ℕ → ℕ → ℕ) (stops : List Stop) (start d w : ℕ) (c : Clock) → walked leg stops (started start) ≡ shifted d w c →
    drive leg stops start ≡ record { duration = d + c.duration; warp = w + c.warp }
drive-shifted leg stops start d w c e = ap (λ (b : Clock). record { duration = b.duration; warp = b.warp }) e

-- the drive from a later start, where the first stop is open and closed by then
drive-late : (leg : ℕ → ℕ → ℕ) (x : Stop) (xs : List Stop) (moment later : ℕ) → x.gate ≤ moment → x.early ≤ x.late → x.late ≤ moment →
    drive leg (x ∷ xs) (moment + later) ≡ record { duration = 0 + (drive leg (x ∷ xs) moment).duration; warp = later + (drive leg (x ∷ xs) moment).warp }
drive-late leg x xs moment later gate in_order late =
    drive-shifted leg (x ∷ xs) (moment + later) 0 later (walked leg (x ∷ xs) (started moment)) (walked-late leg x xs moment later gate in_order late)

-- a segment tells the drives from all starts, also of those that are too late
tells-late : (leg : ℕ → ℕ → ℕ) (segment : DurationSegment) (x : Stop) (xs : List Stop) (later : ℕ) → IsSoundDuration segment → Stands leg segment (x ∷ xs) →
    Tells leg segment (x ∷ xs) (latest_moment + later)
tells-late leg segment x xs later sound h =
    let first : IsHeld x = All-head IsHeld x xs h.held in
    let in_order : segment.earliest ≤ℤ segment.latest = sound.in_order in
    let in_time : segment.latest ≤ℤ pos latest_moment = sound.begins_in_time in
    let before : segment.earliest ≤ℤ pos latest_moment = omega (arith, ints) in
    let late : x.late ≤ latest_moment = omega (arith, first.in_time) in
    let P : Walk → Type 0 = λ d. Takes (span_of segment) (latest_moment + later) d.duration d.warp in
    subst P (sym (drive-late leg x xs latest_moment later first.gate first.in_order late))
    (takes_later (span_of segment) latest_moment later (drive leg (x ∷ xs) latest_moment).duration (drive leg (x ∷ xs) latest_moment).warp before in_time
    (tells-in_time leg segment (x ∷ xs) latest_moment h (omega arith)))

tells-always : (leg : ℕ → ℕ → ℕ) (segment : DurationSegment) (x : Stop) (xs : List Stop) (start : ℕ) → IsSoundDuration segment → Stands leg segment (x ∷ xs) →
    Tells leg segment (x ∷ xs) start
tells-always leg segment x xs start sound h = elim (sooner_or_later start latest_moment) [
  | inl in_time ↦ tells-in_time leg segment (x ∷ xs) start h in_time
  | inr late ↦ let P : ℕ → Type 0 = λ s. Tells leg segment (x ∷ xs) s in subst P (sym late.1) (tells-late leg segment x xs late.0 sound h)
]
  where
    sooner_or_later : (start moment : ℕ) → (start ≤ moment) ⊎ ((later : ℕ) × (start ≡ moment + later))
    sooner_or_later start moment = elim (split start moment) [ inl h ↦ inl h | inr h ↦ inr (start - moment, omega arith) ]
      where
        split : (start moment : ℕ) → (start ≤ moment) ⊎ (moment ≤ start)
        split start moment = grind arith

joint-nothing : (leg : ℕ → ℕ → ℕ) (xs : List Stop) → joint leg xs [] ≡ 0
joint-nothing leg [] = refl
joint-nothing leg (x ∷ xs) = refl

-- the drive of the second list, from the end of the first
tells-there : (leg : ℕ → ℕ → ℕ) (segment : DurationSegment) (xs ys : List Stop) (end : ℕ) → IsSoundDuration segment → Stands leg segment ys → end ≤ latest_moment →
    Tells leg segment ys (end + joint leg xs ys)
tells-there leg segment xs [] end sound h in_time =
    let e = joint-nothing leg xs in
    let there : end + joint leg xs [] ≤ latest_moment = omega arith in
    tells-in_time leg segment [] (end + joint leg xs []) h there
tells-there leg segment xs (y ∷ ys) end sound h in_time = tells-always leg segment y ys (end + joint leg xs (y ∷ ys)) sound h

-- the drive of both lists
tells-joined : (leg : ℕ → ℕ → ℕ) (left right : DurationSegment) (xs ys : List Stop) (start : ℕ) → IsSoundDuration left → IsSoundDuration right →
    Stands leg left xs → Stands leg right ys → start ≤ latest_moment → Tells leg (merged_duration left right (pos (joint leg xs ys))) (xs ++ ys) start
tells-joined leg left right xs ys start sound_left sound_right h k in_time =
    let end = (walked leg xs (started start)).time in
    let time = walked-time leg xs start in
    let first = tells-in_time leg left xs start h in_time in
    let bound = end-bound (span_of left) start end (drive leg xs start).duration (drive leg xs start).warp latest_moment sound_left.in_order sound_left.ends_in_time time first in
    let second = tells-there leg right xs ys end sound_right k bound in
    let P : Walk → Type 0 = λ d. Takes (span_of (merged_duration left right (pos (joint leg xs ys)))) start d.duration d.warp in
    subst P (sym (drive-shifted leg (xs ++ ys) start ((drive leg xs start).duration + joint leg xs ys) (drive leg xs start).warp
    (walked leg ys (started (end + joint leg xs ys))) (walked-joined leg xs ys start)))
    (takes_both (span_of left) (span_of right) (joint leg xs ys) start end (drive leg xs start).duration (drive leg xs start).warp
    (drive leg ys (end + joint leg xs ys)).duration (drive leg ys (end + joint leg xs ys)).warp sound_left.in_order time first second)

-- merged segments stand for both lists
pub merged-joins : (left right : DurationSegment) (gap : ℤ) → IsSoundDuration left → IsSoundDuration right → Joins left right gap (merged_duration left right gap)
merged-joins left right gap sound_left sound_right leg xs ys h k is_joint =
    let P : ℤ → Type 0 = λ g. Stands leg (merged_duration left right g) (xs ++ ys) in
    subst P (sym is_joint) (stands_from_tells leg (merged_duration left right (pos (joint leg xs ys))) (xs ++ ys) (All-append IsHeld xs ys h.held k.held)
    (λ start in_time. tells-joined leg left right xs ys start sound_left sound_right h k in_time))

-- the drive of stops of which the first is held back
tells-released : (leg : ℕ → ℕ → ℕ) (segment : DurationSegment) (x : Stop) (xs : List Stop) (moment start : ℕ) → Stands leg segment (x ∷ xs) →
    moment ≤ latest_moment → start ≤ latest_moment → Tells leg (released_from segment (pos moment)) (released_at moment (x ∷ xs)) start
tells-released leg segment x xs moment start h released in_time =
    let later : max start moment ≤ latest_moment = omega arith in
    let P : Walk → Type 0 = λ d. Takes (span_of (released_from segment (pos moment))) start d.duration d.warp in
    subst P (sym (drive-shifted leg (released_at moment (x ∷ xs)) start (moment - start) 0 (walked leg (x ∷ xs) (started (max start moment))) (walked-released leg x xs moment start)))
    (takes_released (span_of segment) moment start (drive leg (x ∷ xs) (max start moment)).duration (drive leg (x ∷ xs) (max start moment)).warp
    (tells-in_time leg segment (x ∷ xs) (max start moment) h later))

held-released : (x : Stop) (moment : ℕ) → moment ≤ latest_moment → IsHeld x → IsHeld (record x { gate = max x.gate moment })
held-released x moment released h = let gate = h.gate in record { gate = omega arith; in_order = h.in_order; in_time = h.in_time }

-- a released segment stands for the stops with the first one held back
pub released-releases : (segment : DurationSegment) (release : ℤ) → release ≤ℤ pos latest_moment → Releases segment release (released_from segment release)
released-releases segment release in_time leg x xs moment h is_moment =
    let P : ℤ → Type 0 = λ r. Stands leg (released_from segment r) (released_at moment (x ∷ xs)) in
    let released : moment ≤ latest_moment = omega (arith, ints) in
    subst P (sym is_moment) (stands_from_tells leg (released_from segment (pos moment)) (released_at moment (x ∷ xs))
    (All-cons IsHeld (record x { gate = max x.gate moment }) xs (held-released x moment released (All-head IsHeld x xs h.held)) (All-tail IsHeld x xs h.held))
    (λ start begun. tells-released leg segment x xs moment start h released begun))

-- the drive that a segment tells from a start
pub at_start-drives : (segment : DurationSegment) (start : ℤ) → start ≤ℤ pos latest_moment → IsDriveOf segment start (at_start_of segment start)
at_start-drives segment start in_time leg stops moment h is_moment =
    let begun : moment ≤ latest_moment = omega (arith, ints) in
    ap (at_start_of segment) is_moment ∙ h.drives moment begun

-- the latest start is none behind the last one
latest-in_reach : (leg : ℕ → ℕ → ℕ) (segment : DurationSegment) (x : Stop) (xs : List Stop) → IsSoundDuration segment → Stands leg segment (x ∷ xs) → IsInReach x →
    segment.latest ≤ℤ pos last_start
latest-in_reach leg segment x xs sound h in_reach =
    let first : IsHeld x = All-head IsHeld x xs h.held in
    let P : Walk → Type 0 = λ d. Takes (span_of segment) (last_start + 1) d.duration d.warp in
    latest_has_passed (span_of segment) last_start (drive leg (x ∷ xs) last_start).duration (drive leg (x ∷ xs) last_start).warp
    (tells-always leg segment x xs last_start sound h)
    (subst P (drive-late leg x xs last_start 1 in_reach.gate first.in_order in_reach.late) (tells-always leg segment x xs (last_start + 1) sound h))

-- the drive from the earliest start is the best one
best-from_earliest : (leg : ℕ → ℕ → ℕ) (segment : DurationSegment) (x : Stop) (xs : List Stop) → IsSoundDuration segment → Stands leg segment (x ∷ xs) → IsInReach x →
    (segment.duration ≡ pos (best_drive leg (x ∷ xs)).duration) × (segment.warp ≡ pos (best_drive leg (x ∷ xs)).warp)
best-from_earliest leg segment x xs sound h in_reach =
    let earliest = natural segment.earliest sound.begins_from_0 in
    let e = earliest.0 in
    let is_e : segment.earliest ≡ pos e = earliest.1 in
    let in_order : segment.earliest ≤ℤ segment.latest = sound.in_order in
    let reached = latest-in_reach leg segment x xs sound h in_reach in
    let in_time : e ≤ last_start = omega (arith, ints) in
    let taken = takes_at_earliest (span_of segment) e (drive leg (x ∷ xs) e).duration (drive leg (x ∷ xs) e).warp is_e in_order (tells-always leg segment x xs e sound h) in
    let best : IsBestDrive leg (x ∷ xs) (drive leg (x ∷ xs) e) = record {
      start = e;
      in_time = in_time;
      driven = refl;
      least_warp = λ s _. takes-least_warp (span_of segment) s (drive leg (x ∷ xs) s).duration (drive leg (x ∷ xs) s).warp (drive leg (x ∷ xs) e).warp taken.1 (tells-always leg segment x xs s sound h);
      least_duration = λ s _ _. takes-least_duration (span_of segment) s (drive leg (x ∷ xs) s).duration (drive leg (x ∷ xs) s).warp (drive leg (x ∷ xs) e).duration taken.0 (tells-always leg segment x xs s sound h);
    } in
    let same = best_drive-unique leg (x ∷ xs) (drive leg (x ∷ xs) e) best in
    (taken.0 ∙ ap (λ (d : Walk). pos d.duration) same, taken.1 ∙ ap (λ (d : Walk). pos d.warp) same)

pub least_warp-is : (segment : DurationSegment) (answer : ℤ) → IsSoundDuration segment → answer ≡ segment.warp → IsLeastWarpOf segment answer
least_warp-is segment answer sound is leg x xs h in_reach = is ∙ (best-from_earliest leg segment x xs sound h in_reach).1

pub least_duration-is : (segment : DurationSegment) (answer : ℤ) → IsSoundDuration segment → answer ≡ segment.duration → IsLeastDurationOf segment answer
least_duration-is segment answer sound is leg x xs h in_reach = is ∙ (best-from_earliest leg segment x xs sound h in_reach).0

-- releasing keeps a segment sound
pub released-sound : (segment : DurationSegment) (release : ℤ) → IsSoundDuration segment → pos 0 ≤ℤ release → release ≤ℤ pos latest_release →
    IsWithinDuration (released_from segment release) → IsSoundDuration (released_from segment release)
released-sound segment release sound from_0 in_time within = record {
  duration = sound.duration;
  warp = record { from_0 = omega (arith, ints, clamps); to_largest = within.warp };
  begins_from_0 = omega (arith, ints, clamps);
  in_order = omega (arith, ints, clamps);
  begins_in_time = omega (arith, ints, clamps);
  ends_from_0 = omega (arith, ints, clamps);
  ends_in_time = omega (arith, ints, clamps);
}

-- merging keeps segments sound
pub merged-sound : (left right : DurationSegment) (gap : ℤ) → IsSoundDuration left → IsSoundDuration right → IsJoint gap →
    IsWithinDuration (merged_duration left right gap) → IsSoundDuration (merged_duration left right gap)
merged-sound left right gap sound_left sound_right in_range within = record {
  duration = record { from_0 = omega (arith, ints, clamps); to_largest = within.duration };
  warp = record { from_0 = omega (arith, ints, clamps); to_largest = within.warp };
  begins_from_0 = omega (arith, ints, clamps);
  in_order = merged_span-in_order (span_of left) (span_of right) gap sound_left.in_order sound_right.in_order;
  begins_in_time = omega (arith, ints, clamps);
  ends_from_0 = omega (arith, ints, clamps);
  ends_in_time = omega (arith, ints, clamps);
}
