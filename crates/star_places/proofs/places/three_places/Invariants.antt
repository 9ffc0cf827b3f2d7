use Rattle.std.proofs.Common.{◌*◌}
use Rattle.problem_data.specs.Reads.{RoseAtMost}
use Rattle.star_places.specs.Growths.{growth_of}
use Rattle.star_places.specs.Places.{AreThree}
use Rattle.star_places.proofs.places.three_places.Given as goal

abbrev pub invariant-loop-place : goal.invariant-loop-place
invariant-loop-place l = record {
  three : AreThree (growth_of l.route l.client) l.place l.three;
  reads : RoseAtMost (2 * l.place) l.fn.reads l.reads;
}
