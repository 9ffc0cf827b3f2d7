use Rattle.std.proofs.Common.{arith, ◌≡◌, ◌∙◌, ap, sym, subst}
use Rattle.std.specs.Prelude.{ℤ, pos, ◌+ℤ◌, ◌-ℤ◌}
use Rattle.std.specs.Int.{int_max, int_min}
use Rattle.std.proofs.lemmas.Int.{ints}
use Rattle.segment_model.specs.Span.{shift_of}
use Rattle.segments.specs.Duration.{IsSoundDuration, Joins, span_of}
use Rattle.segments.specs.Totals.{IsJoint}
use Rattle.segments.proofs.Alike.{same_segment}
use Rattle.segments.proofs.BoundedSums.{difference_fits, four-sum, four_fit, kept, kept-joint, kept-shift, three-sum, three_fit, two-difference, two-sum, two_fit}
use Rattle.segments.proofs.Standing.{merged-joins, merged-sound}
use Rattle.segments.proofs.duration_segment.DurationSegmentSegment.merge.Goals as goal

pub overflow_add-result-2 : goal.overflow_add-result-2
overflow_add-result-2 c =
    let left : IsSoundDuration c.args.self = c.requires.left in
    let right : IsSoundDuration c.args.right = c.requires.right in
    let joint : IsJoint c.args.joint = c.requires.joint in
    omega (arith, ints)

pub overflow_add-result-3 : goal.overflow_add-result-3
overflow_add-result-3 c = four_fit c.args.self.duration c.args.right.duration c.args.joint c.wait_for-wait.result
    c.requires.left.duration c.requires.right.duration c.requires.joint c.wait_for-wait.ensures.bounded

pub overflow_add-result-5 : goal.overflow_add-result-5
overflow_add-result-5 c = three_fit c.args.self.warp c.args.right.warp c.warp_to-warp.result
    c.requires.left.warp c.requires.right.warp c.warp_to-warp.ensures.bounded

pub overflow_add-result-6 : goal.overflow_add-result-6
overflow_add-result-6 c = two_fit c.latest_with.result c.warp_to-warp.result c.latest_with.ensures.bounded c.warp_to-warp.ensures.bounded

pub overflow_sub-result : goal.overflow_sub-result
overflow_sub-result c = difference_fits c.earliest_with.result c.wait_for-wait.result c.earliest_with.ensures.bounded c.wait_for-wait.ensures.bounded

pub returns-clause-value : goal.returns-clause-value
returns-clause-value c =
    let left = c.args.self in
    let right = c.args.right in
    let shift : kept c.shift-shift.result ≡ shift_of (span_of left) c.args.joint =
    kept-shift c.shift-shift.result c.shift-shift.ensures.bounded ∙ c.shift-shift.ensures.value
    ∙ ap (shift_of (span_of left)) (kept-joint c.args.joint c.requires.joint) in
    let wait = c.wait_for-wait.ensures.value ∙ ap (λ (z : ℤ). int_max ((right.earliest -ℤ z) -ℤ left.latest) (pos 0)) shift in
    let warp = c.warp_to-warp.ensures.value ∙ ap (λ (z : ℤ). int_max ((left.earliest +ℤ z) -ℤ right.latest) (pos 0)) shift in
    let earliest = c.earliest_with.ensures.value ∙ ap (λ (z : ℤ). int_max (right.earliest -ℤ z) left.earliest) shift in
    let latest = c.latest_with.ensures.value ∙ ap (λ (z : ℤ). int_min (right.latest -ℤ z) left.latest) shift in
    same_segment _ _
    (four-sum left.duration right.duration c.args.joint c.wait_for-wait.result _
    c.requires.left.duration c.requires.right.duration c.requires.joint c.wait_for-wait.ensures.bounded wait)
    (three-sum left.warp right.warp c.warp_to-warp.result _ c.requires.left.warp c.requires.right.warp c.warp_to-warp.ensures.bounded warp)
    (two-difference c.earliest_with.result c.wait_for-wait.result _ _ c.earliest_with.ensures.bounded c.wait_for-wait.ensures.bounded earliest wait)
    (two-sum c.latest_with.result c.warp_to-warp.result _ _ c.latest_with.ensures.bounded c.warp_to-warp.ensures.bounded latest warp)

pub returns-clause-sound : goal.returns-clause-sound
returns-clause-sound c = subst IsSoundDuration (sym (returns-clause-value c))
    (merged-sound c.args.self c.args.right c.args.joint c.requires.left c.requires.right c.requires.joint c.requires.within)

pub returns-clause-joins : goal.returns-clause-joins
returns-clause-joins c = subst (Joins c.args.self c.args.right c.args.joint) (sym (returns-clause-value c))
    (merged-joins c.args.self c.args.right c.args.joint c.requires.left c.requires.right)
