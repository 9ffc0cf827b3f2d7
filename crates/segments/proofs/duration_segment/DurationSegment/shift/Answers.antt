use Rattle.std.proofs.Common.{arith}
use Rattle.std.proofs.lemmas.Int.{ints}
use Rattle.segments.specs.Duration.{IsSoundDuration}
use Rattle.segments.specs.Totals.{IsJoint}
use Rattle.segments.proofs.duration_segment.DurationSegment.shift.Goals as goal

pub returns-clause-value : goal.returns-clause-value
returns-clause-value c =
    let sound : IsSoundDuration c.args.self = c.requires.sound in
    let joint : IsJoint c.args.joint = c.requires.joint in
    omega (arith, ints)

pub returns-clause-bounded : goal.returns-clause-bounded
returns-clause-bounded c =
    let sound : IsSoundDuration c.args.self = c.requires.sound in
    let joint : IsJoint c.args.joint = c.requires.joint in
    record { back = omega (arith, ints); forth = omega (arith, ints) }
