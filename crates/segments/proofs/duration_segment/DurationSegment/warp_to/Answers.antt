use Rattle.std.proofs.Common.{arith}
use Rattle.std.proofs.lemmas.Int.{ints, clamps}
use Rattle.segments.specs.Duration.{IsSoundDuration}
use Rattle.segments.specs.inside.Moments.{IsShift}
use Rattle.segments.proofs.duration_segment.DurationSegment.warp_to.Goals as goal

pub overflow_sub-self : goal.overflow_sub-self
overflow_sub-self c =
    let left : IsSoundDuration c.args.self = c.requires.left in
    let right : IsSoundDuration c.args.right = c.requires.right in
    let shift : IsShift c.args.shift = c.requires.shift in
    omega (arith, ints, clamps)

pub returns-clause-value : goal.returns-clause-value
returns-clause-value c =
    let left : IsSoundDuration c.args.self = c.requires.left in
    let right : IsSoundDuration c.args.right = c.requires.right in
    let shift : IsShift c.args.shift = c.requires.shift in
    omega (arith, ints, clamps)

pub returns-clause-bounded : goal.returns-clause-bounded
returns-clause-bounded c =
    let left : IsSoundDuration c.args.self = c.requires.left in
    let right : IsSoundDuration c.args.right = c.requires.right in
    let shift : IsShift c.args.shift = c.requires.shift in
    record { back = omega (arith, ints, clamps); forth = omega (arith, ints, clamps) }
