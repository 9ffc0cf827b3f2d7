use Rattle.std.proofs.Common.{arith}
use Rattle.std.proofs.lemmas.Int.{ints}
use Rattle.segments.specs.Distance.{IsSoundDistance}
use Rattle.segments.specs.Totals.{IsJoint}
use Rattle.segments.proofs.StopLengths.{merged-joins_lengths}
use Rattle.segments.proofs.distance_segment.DistanceSegmentSegment.merge.Goals as goal

pub returns-clause-joins : goal.returns-clause-joins
returns-clause-joins c =
    let left : IsSoundDistance c.args.self = c.requires.left in
    let right : IsSoundDistance c.args.right = c.requires.right in
    let joint : IsJoint c.args.joint = c.requires.joint in
    merged-joins_lengths c.args.self c.args.right c.args.joint _ (omega (arith, ints))
