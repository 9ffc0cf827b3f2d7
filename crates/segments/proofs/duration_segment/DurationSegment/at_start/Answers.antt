use Rattle.std.proofs.Common.{arith, sym, subst}
use Rattle.std.proofs.lemmas.Int.{ints, clamps}
use Rattle.segments.specs.Duration.{IsDriveOf, IsSoundDuration}
use Rattle.segments.proofs.Standing.{at_start-drives}
use Rattle.segments.proofs.Alike.{same_drive}
use Rattle.segments.proofs.duration_segment.DurationSegment.at_start.Goals as goal

pub overflow_sub-start : goal.overflow_sub-start
overflow_sub-start c = let sound : IsSoundDuration c.args.self = c.requires.sound in omega (arith, ints, clamps)

pub overflow_add-result : goal.overflow_add-result
overflow_add-result c = let sound : IsSoundDuration c.args.self = c.requires.sound in omega (arith, ints, clamps)

pub overflow_add-result-2 : goal.overflow_add-result-2
overflow_add-result-2 c = let sound : IsSoundDuration c.args.self = c.requires.sound in omega (arith, ints, clamps)

pub returns-clause-value : goal.returns-clause-value
returns-clause-value c = let sound : IsSoundDuration c.args.self = c.requires.sound in
    same_drive _ _ (omega (arith, ints, clamps)) (omega (arith, ints, clamps))

pub returns-clause-drives : goal.returns-clause-drives
returns-clause-drives c = subst (IsDriveOf c.args.self c.args.start) (sym (returns-clause-value c)) (at_start-drives c.args.self c.args.start c.requires.in_time)
