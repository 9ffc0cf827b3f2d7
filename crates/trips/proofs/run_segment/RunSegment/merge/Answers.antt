use Rattle.std.proofs.Common.{rules, refl, w32, w64, to_z, pos, ◌≡◌, arith, ◌+◌, Fits}
use Rattle.std.proofs.lemmas.Int.{ints}
use Rattle.trips.proofs.RunJoins.{run_segments-joined}
use Rattle.trips.proofs.run_segment.RunSegment.merge.Goals as goal

pub returns : goal.returns
returns c =
    let fits : Fits w32 c.args.leg.duration = search rules in
    let fits_distance : Fits w32 c.args.leg.distance = search rules in
    let duration : to_z w64 c.args.leg.duration ≡ pos c.args.leg.duration = omega (arith, ints) in
    let distance : to_z w64 c.args.leg.distance ≡ pos c.args.leg.distance = omega (arith, ints) in
    record {
      joins = run_segments-joined c.args.self c.args.right (record { trips = c.merge.result; distance = c.merge-2.result; prizes = c.args.self.prizes + c.args.right.prizes })
          c.args.leg.distance c.args.leg.duration c.args.capacity c.merge.ensures.sound (rw duration at c.merge.ensures.joins) c.merge-2.ensures.sound (rw distance at c.merge-2.ensures.joins) refl;
      trips = rw duration at c.merge.ensures.value;
    }
