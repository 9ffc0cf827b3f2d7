use Rattle.std.proofs.Common.{arith, sym, subst}
use Rattle.std.proofs.lemmas.Int.{ints, clamps}
use Rattle.segments.specs.Load.{IsSoundLoad, JoinsLoads}
use Rattle.segments.proofs.Alike.{same_load}
use Rattle.segments.proofs.TripLoads.{merged-joins_loads, merged-sound_load}
use Rattle.segments.proofs.load_segment.LoadSegmentSegment.merge.Goals as goal

pub returns-clause-value : goal.returns-clause-value
returns-clause-value c =
    let left : IsSoundLoad c.args.self = c.requires.left in
    let right : IsSoundLoad c.args.right = c.requires.right in
    same_load _ _ (omega (arith, ints)) (omega (arith, ints)) (omega (arith, ints, clamps))

pub returns-clause-sound : goal.returns-clause-sound
returns-clause-sound c = subst IsSoundLoad (sym (returns-clause-value c))
    (merged-sound_load c.args.self c.args.right c.args.joint c.requires.left c.requires.right c.requires.within)

pub returns-clause-joins : goal.returns-clause-joins
returns-clause-joins c = subst (JoinsLoads c.args.self c.args.right) (sym (returns-clause-value c)) (merged-joins_loads c.args.self c.args.right c.args.joint)
