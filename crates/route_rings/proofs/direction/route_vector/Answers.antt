use Rattle.std.proofs.Common.{refl}
use Rattle.route_rings.proofs.Vectors.{grown, grown-short}
use Rattle.route_rings.proofs.direction.route_vector.Goals as goal

pub loop-visit-preserved : goal.loop-visit-preserved
loop-visit-preserved c =
    let p = c.args.given.now in
    let so_far = c.loop-visit.invariant in
    let next = c.offset_of-offset.ensures in (
      grown p c.args.visits.now c.loop-visit.visit-index _ c.loop-visit-test.true refl c.requires.few c.loop-visit.sum c.offset_of-offset.result so_far.0 so_far.1 next.offset next.short,
      grown-short p c.args.visits.now c.loop-visit.visit-index _ c.loop-visit-test.true refl c.requires.few c.loop-visit.sum c.offset_of-offset.result so_far.0 so_far.1 next.offset next.short,
    )
