use Rattle.std.proofs.Common.{arith, sym, subst}
use Rattle.std.specs.Prelude.{pos, ◌≤ℤ◌}
use Rattle.std.proofs.lemmas.Int.{ints, clamps}
use Rattle.segment_model.specs.Span.{latest_moment}
use Rattle.segments.specs.Duration.{IsSoundDuration, Releases}
use Rattle.segments.proofs.Alike.{same_segment}
use Rattle.segments.proofs.Standing.{released-releases, released-sound}
use Rattle.segments.proofs.duration_segment.DurationSegment.released.Goals as goal

pub overflow_add-result : goal.overflow_add-result
overflow_add-result c = let sound : IsSoundDuration c.args.self = c.requires.sound in omega (arith, ints, clamps)

pub returns-clause-value : goal.returns-clause-value
returns-clause-value c = let sound : IsSoundDuration c.args.self = c.requires.sound in
    same_segment _ _ (omega (arith, ints, clamps)) (omega (arith, ints, clamps)) (omega (arith, ints, clamps)) (omega (arith, ints, clamps))

pub returns-clause-sound : goal.returns-clause-sound
returns-clause-sound c = subst IsSoundDuration (sym (returns-clause-value c)) (released-sound c.args.self c.args.release c.requires.sound c.requires.from_0 c.requires.in_time c.requires.within)

pub returns-clause-releases : goal.returns-clause-releases
returns-clause-releases c = let in_time : c.args.release ≤ℤ pos latest_moment = omega (arith, ints) in
    subst (Releases c.args.self c.args.release) (sym (returns-clause-value c)) (released-releases c.args.self c.args.release in_time)
