-- Laws of joining spans.
use Rattle.std.proofs.Common.{◌≡◌, ap, arith}
use Rattle.std.specs.Prelude.{ℤ, pos, ◌+ℤ◌, ◌-ℤ◌, ◌≤ℤ◌}
use Rattle.std.specs.Int.{int_max, int_min}
use Rattle.std.proofs.lemmas.Int.{ints, clamps}
use Rattle.segment_model.specs.Span.{Span, duration_from, end_from, latest_moment, merged_span, no_span, shift_of, warp_from}

pub no_span-before : (x : Span) → pos 0 ≤ℤ x.earliest → x.earliest ≤ℤ x.latest → x.latest ≤ℤ pos latest_moment → merged_span no_span x (pos 0) ≡ x
no_span-before x from_0 in_order in_time =
    let d : (merged_span no_span x (pos 0)).duration ≡ x.duration = omega (arith, ints, clamps) in
    let w : (merged_span no_span x (pos 0)).warp ≡ x.warp = omega (arith, ints, clamps) in
    let e : (merged_span no_span x (pos 0)).earliest ≡ x.earliest = omega (arith, ints, clamps) in
    let l : (merged_span no_span x (pos 0)).latest ≡ x.latest = omega (arith, ints, clamps) in
    λ i. record { duration = d i; warp = w i; earliest = e i; latest = l i }

pub no_span-after : (x : Span) → x.earliest ≤ℤ x.latest → pos 0 ≤ℤ ((x.earliest +ℤ x.duration) -ℤ x.warp) → ((x.latest +ℤ x.duration) -ℤ x.warp) ≤ℤ pos latest_moment →
    merged_span x no_span (pos 0) ≡ x
no_span-after x in_order from_0 in_time =
    let d : (merged_span x no_span (pos 0)).duration ≡ x.duration = omega (arith, ints, clamps) in
    let w : (merged_span x no_span (pos 0)).warp ≡ x.warp = omega (arith, ints, clamps) in
    let e : (merged_span x no_span (pos 0)).earliest ≡ x.earliest = omega (arith, ints, clamps) in
    let l : (merged_span x no_span (pos 0)).latest ≡ x.latest = omega (arith, ints, clamps) in
    λ i. record { duration = d i; warp = w i; earliest = e i; latest = l i }

-- the waits of two windows of starts, one `shift` behind the other, are those of the windows' meeting
waits-met : (start early1 late1 early2 shift : ℤ) → early1 ≤ℤ late1 →
    int_max (early1 -ℤ start) (pos 0) +ℤ int_max (early2 -ℤ (((start +ℤ int_max (early1 -ℤ start) (pos 0)) -ℤ int_max (start -ℤ late1) (pos 0)) +ℤ shift)) (pos 0)
    ≡ int_max ((early2 -ℤ shift) -ℤ late1) (pos 0) +ℤ int_max ((int_max (early2 -ℤ shift) early1 -ℤ int_max ((early2 -ℤ shift) -ℤ late1) (pos 0)) -ℤ start) (pos 0)
waits-met start early1 late1 early2 shift h = omega (arith, ints, clamps)

-- the warps, likewise, from the latest start of the second window as the first one sees it
warps-met_from : (start early1 late1 late2 : ℤ) → early1 ≤ℤ late1 →
    int_max (start -ℤ late1) (pos 0) +ℤ int_max (((start +ℤ int_max (early1 -ℤ start) (pos 0)) -ℤ int_max (start -ℤ late1) (pos 0)) -ℤ late2) (pos 0)
    ≡ int_max (early1 -ℤ late2) (pos 0) +ℤ int_max (start -ℤ (int_min late2 late1 +ℤ int_max (early1 -ℤ late2) (pos 0))) (pos 0)
warps-met_from start early1 late1 late2 h = omega (arith, ints, clamps)

-- the warps of two windows of starts, one `shift` behind the other, are those of the windows' meeting
warps-met : (start early1 late1 late2 shift : ℤ) → early1 ≤ℤ late1 →
    int_max (start -ℤ late1) (pos 0) +ℤ int_max ((((start +ℤ int_max (early1 -ℤ start) (pos 0)) -ℤ int_max (start -ℤ late1) (pos 0)) +ℤ shift) -ℤ late2) (pos 0)
    ≡ int_max ((early1 +ℤ shift) -ℤ late2) (pos 0) +ℤ int_max (start -ℤ (int_min (late2 -ℤ shift) late1 +ℤ int_max ((early1 +ℤ shift) -ℤ late2) (pos 0))) (pos 0)
warps-met start early1 late1 late2 shift h =
    rw (turned ((start +ℤ int_max (early1 -ℤ start) (pos 0)) -ℤ int_max (start -ℤ late1) (pos 0)) shift late2, turned early1 shift late2)
    (warps-met_from start early1 late1 (late2 -ℤ shift) h)
  where
    turned : (x y z : ℤ) → (x +ℤ y) -ℤ z ≡ x -ℤ (z -ℤ y)
    turned x y z = omega (arith, ints)

-- when the right one is started
end_from-is : (x : Span) (gap start : ℤ) →
    end_from x start +ℤ gap ≡ ((start +ℤ int_max (x.earliest -ℤ start) (pos 0)) -ℤ int_max (start -ℤ x.latest) (pos 0)) +ℤ shift_of x gap
end_from-is x gap start = omega (arith, ints)

-- a drive of both takes what the left one takes, the gap, and what the right one takes from there
pub duration_from-merged : (x y : Span) (gap start : ℤ) → x.earliest ≤ℤ x.latest →
    duration_from (merged_span x y gap) start ≡ (duration_from x start +ℤ gap) +ℤ duration_from y (end_from x start +ℤ gap)
duration_from-merged x y gap start in_order =
    let e = ap (λ (moment : ℤ). duration_from y moment) (end_from-is x gap start) in
    let w = waits-met start x.earliest x.latest y.earliest (shift_of x gap) in_order in
    omega (arith, ints)

pub warp_from-merged : (x y : Span) (gap start : ℤ) → x.earliest ≤ℤ x.latest →
    warp_from (merged_span x y gap) start ≡ warp_from x start +ℤ warp_from y (end_from x start +ℤ gap)
warp_from-merged x y gap start in_order =
    let e = ap (λ (moment : ℤ). warp_from y moment) (end_from-is x gap start) in
    let w = warps-met start x.earliest x.latest y.latest (shift_of x gap) in_order in
    omega (arith, ints)

pub end_from-merged : (x y : Span) (gap start : ℤ) → x.earliest ≤ℤ x.latest →
    end_from (merged_span x y gap) start ≡ end_from y (end_from x start +ℤ gap)
end_from-merged x y gap start in_order =
    let d = duration_from-merged x y gap start in_order in
    let w = warp_from-merged x y gap start in_order in
    omega (arith, ints)

-- spans that agree from every start are one
same_duration : (d e d' e' : ℤ) → ((start : ℤ) → d +ℤ int_max (e -ℤ start) (pos 0) ≡ d' +ℤ int_max (e' -ℤ start) (pos 0)) → d ≡ d'
same_duration d e d' e' h = let k = h (int_max e e') in omega (arith, ints, clamps)

same_earliest : (d e d' e' : ℤ) → ((start : ℤ) → d +ℤ int_max (e -ℤ start) (pos 0) ≡ d' +ℤ int_max (e' -ℤ start) (pos 0)) → e ≡ e'
same_earliest d e d' e' h = let k = h (int_max e e') in let l = h (int_min e e') in omega (arith, ints, clamps)

same_warp : (w l w' l' : ℤ) → ((start : ℤ) → w +ℤ int_max (start -ℤ l) (pos 0) ≡ w' +ℤ int_max (start -ℤ l') (pos 0)) → w ≡ w'
same_warp w l w' l' h = let k = h (int_min l l') in omega (arith, ints, clamps)

same_latest : (w l w' l' : ℤ) → ((start : ℤ) → w +ℤ int_max (start -ℤ l) (pos 0) ≡ w' +ℤ int_max (start -ℤ l') (pos 0)) → l ≡ l'
same_latest w l w' l' h = let k = h (int_min l l') in let m = h (int_max l l') in omega (arith, ints, clamps)

pub same_span : (x y : Span) → ((start : ℤ) → duration_from x start ≡ duration_from y start) → ((start : ℤ) → warp_from x start ≡ warp_from y start) → x ≡ y
same_span x y durations warps =
    let d = same_duration x.duration x.earliest y.duration y.earliest durations in
    let e = same_earliest x.duration x.earliest y.duration y.earliest durations in
    let w = same_warp x.warp x.latest y.warp y.latest warps in
    let l = same_latest x.warp x.latest y.warp y.latest warps in
    λ i. record { duration = d i; warp = w i; earliest = e i; latest = l i }

-- the spans' windows of starts aren't empty
pub merged_span-in_order : (x y : Span) (gap : ℤ) → x.earliest ≤ℤ x.latest → y.earliest ≤ℤ y.latest → (merged_span x y gap).earliest ≤ℤ (merged_span x y gap).latest
merged_span-in_order x y gap hx hy = omega (arith, ints, clamps)

-- three terms and two gaps, from the left and from the right
sums_regrouped : (whole whole' front back a b c c' first second : ℤ) →
    whole ≡ (front +ℤ second) +ℤ c → front ≡ (a +ℤ first) +ℤ b → c ≡ c' → whole' ≡ (a +ℤ first) +ℤ back → back ≡ (b +ℤ second) +ℤ c' → whole ≡ whole'
sums_regrouped whole whole' front back a b c c' first second h i j k l = omega (arith, ints)

-- three terms, from the left and from the right
parts_regrouped : (whole whole' front back a b c c' : ℤ) →
    whole ≡ front +ℤ c → front ≡ a +ℤ b → c ≡ c' → whole' ≡ a +ℤ back → back ≡ b +ℤ c' → whole ≡ whole'
parts_regrouped whole whole' front back a b c c' h i j k l = omega (arith, ints)

durations-regrouped : (x y z : Span) (first second start : ℤ) → x.earliest ≤ℤ x.latest → y.earliest ≤ℤ y.latest →
    duration_from (merged_span (merged_span x y first) z second) start ≡ duration_from (merged_span x (merged_span y z second) first) start
durations-regrouped x y z first second start hx hy =
    let left = merged_span x y first in
    let right = merged_span y z second in
    let middle = end_from x start +ℤ first in
    sums_regrouped (duration_from (merged_span left z second) start) (duration_from (merged_span x right first) start)
    (duration_from left start) (duration_from right middle)
    (duration_from x start) (duration_from y middle) (duration_from z (end_from left start +ℤ second)) (duration_from z (end_from y middle +ℤ second))
    first second
    (duration_from-merged left z second start (merged_span-in_order x y first hx hy))
    (duration_from-merged x y first start hx)
    (ap (λ (moment : ℤ). duration_from z (moment +ℤ second)) (end_from-merged x y first start hx))
    (duration_from-merged x right first start hx)
    (duration_from-merged y z second middle hy)

warps-regrouped : (x y z : Span) (first second start : ℤ) → x.earliest ≤ℤ x.latest → y.earliest ≤ℤ y.latest →
    warp_from (merged_span (merged_span x y first) z second) start ≡ warp_from (merged_span x (merged_span y z second) first) start
warps-regrouped x y z first second start hx hy =
    let left = merged_span x y first in
    let right = merged_span y z second in
    let middle = end_from x start +ℤ first in
    parts_regrouped (warp_from (merged_span left z second) start) (warp_from (merged_span x right first) start)
    (warp_from left start) (warp_from right middle)
    (warp_from x start) (warp_from y middle) (warp_from z (end_from left start +ℤ second)) (warp_from z (end_from y middle +ℤ second))
    (warp_from-merged left z second start (merged_span-in_order x y first hx hy))
    (warp_from-merged x y first start hx)
    (ap (λ (moment : ℤ). warp_from z (moment +ℤ second)) (end_from-merged x y first start hx))
    (warp_from-merged x right first start hx)
    (warp_from-merged y z second middle hy)

-- it doesn't matter which two are joined first
pub merged_span-assoc : (x y z : Span) (first second : ℤ) → x.earliest ≤ℤ x.latest → y.earliest ≤ℤ y.latest →
    merged_span (merged_span x y first) z second ≡ merged_span x (merged_span y z second) first
merged_span-assoc x y z first second hx hy =
    same_span (merged_span (merged_span x y first) z second) (merged_span x (merged_span y z second) first)
    (λ start. durations-regrouped x y z first second start hx hy) (λ start. warps-regrouped x y z first second start hx hy)
