use Rattle.std.proofs.Common.{arith}
use Rattle.std.proofs.lemmas.Int.{ints}
use Rattle.segments.specs.Duration.{IsSoundDuration}
use Rattle.segments.proofs.Standing.{least_warp-is}
use Rattle.segments.proofs.duration_segment.DurationSegment.least_warp.Goals as goal

pub returns-clause-least : goal.returns-clause-least
returns-clause-least c = let sound : IsSoundDuration c.args.self = c.requires in least_warp-is c.args.self _ sound (omega (arith, ints))
