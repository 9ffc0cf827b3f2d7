use Rattle.std.proofs.Common.{◌≡◌, arith, w64, to_z, of_z, FitsSigned}
use Rattle.std.specs.Int.{int_max}
use Rattle.std.proofs.lemmas.Int.{ints, clamps, to_z-of_z}
use Rattle.trips.proofs.piece.Piece.merge.Goals as goal

pub returns-clause-value : goal.returns-clause-value
returns-clause-value c =
    let fits : FitsSigned w64 c.args.travel = c.ranges.travel in
    let duration = simp to_z-of_z at c.merge.ensures.value in
    let release : to_z w64 (of_z w64 c.max.result) ≡ int_max c.args.self.release c.args.right.release = omega (arith, ints, clamps) in
    λ i. record { duration = duration i; load = c.merge-2.ensures.value i; release = release i }

pub returns-clause-sound : goal.returns-clause-sound
returns-clause-sound c = record {
  duration = c.merge.ensures.sound;
  load = c.merge-2.ensures.sound;
  from_0 = omega (arith, ints, clamps);
  in_time = omega (arith, ints, clamps);
}
