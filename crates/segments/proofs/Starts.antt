-- What spans give from a start, in numbers.
use Rattle.std.proofs.Common.{◌≡◌, ℕ, ◌+◌, ◌-◌, ◌≤◌, max, refl, ◌∙◌, ap, arith}
use Rattle.std.specs.Prelude.{ℤ, pos, negsuc, ◌+ℤ◌, ◌-ℤ◌, ◌≤ℤ◌}
use Rattle.std.specs.Int.{int_max}
use Rattle.std.proofs.lemmas.Int.{ints, clamps}
use Rattle.segment_model.specs.Span.{Span, duration_from, end_from, merged_span, warp_from}
use Rattle.segment_model.proofs.SpanLaws.{duration_from-merged, warp_from-merged}

-- a drive from a start takes this duration and this warp
pub record Takes (span : Span) (start d w : ℕ) : Type 0 where
  pub duration : duration_from span (pos start) ≡ pos d
  pub warp : warp_from span (pos start) ≡ pos w

-- where the end of a drive is known by its duration and its warp
end-is : (span : Span) (start end duration warp : ℕ) → end + warp ≡ start + duration → Takes span start duration warp → end_from span (pos start) ≡ pos end
end-is span start end duration warp e h = let d = h.duration in let w = h.warp in omega (arith, ints)

-- no drive ends behind the latest end
end_from-bound : (span : Span) (start : ℤ) → span.earliest ≤ℤ span.latest → end_from span start ≤ℤ ((span.latest +ℤ span.duration) -ℤ span.warp)
end_from-bound span start in_order = omega (arith, ints, clamps)

pub end-bound : (span : Span) (start end duration warp most : ℕ) → span.earliest ≤ℤ span.latest → ((span.latest +ℤ span.duration) -ℤ span.warp) ≤ℤ pos most →
    end + warp ≡ start + duration → Takes span start duration warp → end ≤ most
end-bound span start end duration warp most in_order bound e h =
    let k = end-is span start end duration warp e h in
    let l = end_from-bound span (pos start) in_order in
    omega (arith, ints)

-- behind the latest start a drive takes more warp, and nothing else changes
pub takes_later : (span : Span) (moment later duration warp : ℕ) → span.earliest ≤ℤ pos moment → span.latest ≤ℤ pos moment →
    Takes span moment duration warp → Takes span (moment + later) (0 + duration) (later + warp)
takes_later span moment later duration warp earliest latest h =
    let d = h.duration in
    let w = h.warp in
    record { duration = omega (arith, ints, clamps); warp = omega (arith, ints, clamps) }

-- two drives, one after the other
pub takes_both : (left right : Span) (gap start end duration1 warp1 duration2 warp2 : ℕ) → left.earliest ≤ℤ left.latest → end + warp1 ≡ start + duration1 →
    Takes left start duration1 warp1 → Takes right (end + gap) duration2 warp2 →
    Takes (merged_span left right (pos gap)) start ((duration1 + gap) + duration2) (warp1 + warp2)
takes_both left right gap start end duration1 warp1 duration2 warp2 in_order e h k =
    let there : end_from left (pos start) +ℤ pos gap ≡ pos (end + gap) = ap (λ (moment : ℤ). moment +ℤ pos gap) (end-is left start end duration1 warp1 e h) in
    let durations : duration_from right (end_from left (pos start) +ℤ pos gap) ≡ pos duration2 = ap (duration_from right) there ∙ k.duration in
    let warps : warp_from right (end_from left (pos start) +ℤ pos gap) ≡ pos warp2 = ap (warp_from right) there ∙ k.warp in
    record {
      duration = duration_from-merged left right (pos gap) (pos start) in_order ∙ (λ i. (h.duration i +ℤ pos gap) +ℤ durations i);
      warp = warp_from-merged left right (pos gap) (pos start) in_order ∙ (λ i. h.warp i +ℤ warps i);
    }

-- the span that isn't left before a release
abbrev pub released_span : Span → ℤ → Span
released_span span release = record {
  duration = span.duration;
  warp = span.warp +ℤ int_max (release -ℤ span.latest) (pos 0);
  earliest = int_max span.earliest release;
  latest = int_max span.latest release;
}

-- to wait for a release, and to start then
pub takes_released : (span : Span) (release start duration warp : ℕ) → Takes span (max start release) duration warp →
    Takes (released_span span (pos release)) start ((release - start) + duration) (0 + warp)
takes_released span release start duration warp h =
    let d = h.duration in
    let w = h.warp in
    record { duration = omega (arith, ints, clamps); warp = omega (arith, ints, clamps) }

-- where a later start takes more warp, the latest start has passed
pub latest_has_passed : (span : Span) (moment duration warp : ℕ) → Takes span moment duration warp → Takes span (moment + 1) (0 + duration) (1 + warp) → span.latest ≤ℤ pos moment
latest_has_passed span moment duration warp h k =
    let w = h.warp in
    let v = k.warp in
    omega (arith, ints, clamps)

-- from the earliest start a drive takes the span's duration and warp
pub takes_at_earliest : (span : Span) (start duration warp : ℕ) → span.earliest ≡ pos start → span.earliest ≤ℤ span.latest → Takes span start duration warp →
    (span.duration ≡ pos duration) × (span.warp ≡ pos warp)
takes_at_earliest span start duration warp e in_order h =
    let d = h.duration in
    let w = h.warp in
    (omega (arith, ints, clamps), omega (arith, ints, clamps))

-- no start takes less warp
pub takes-least_warp : (span : Span) (start duration warp least : ℕ) → span.warp ≡ pos least → Takes span start duration warp → least ≤ warp
takes-least_warp span start duration warp least e h = let w = h.warp in omega (arith, ints, clamps)

-- no start takes less duration
pub takes-least_duration : (span : Span) (start duration warp least : ℕ) → span.duration ≡ pos least → Takes span start duration warp → least ≤ duration
takes-least_duration span start duration warp least e h = let d = h.duration in omega (arith, ints, clamps)

-- an integer from 0 on is a natural number
pub natural : (z : ℤ) → pos 0 ≤ℤ z → (n : ℕ) × (z ≡ pos n)
natural (pos n) h = (n, refl)
natural (negsuc n) h = absurd (omega (arith, ints))
