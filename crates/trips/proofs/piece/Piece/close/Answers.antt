use Rattle.std.proofs.Common.{◌≡◌, arith, rules, w64, to_z, of_z, pos, ◌-ℤ◌, FitsSigned}
use Rattle.std.specs.Int.{int_max}
use Rattle.std.proofs.lemmas.Int.{ints, clamps, to_z-of_z}
use Rattle.trips.proofs.piece.Piece.close.Goals as goal

pub returns-clause-value : goal.returns-clause-value
returns-clause-value c =
    let fits : FitsSigned w64 c.args.self.release = search rules in
    let duration = simp to_z-of_z at c.released.ensures.value in
    let excess : to_z w64 (of_z w64 c.max.result) ≡ int_max (c.args.self.load.load -ℤ pos c.args.capacity) (pos 0) = omega (arith, ints, clamps) in
    λ i. record { duration = duration i; excess = excess i }

pub returns-clause-sound : goal.returns-clause-sound
returns-clause-sound c = record {
  duration = c.released.ensures.sound;
  excess = record { from_0 = omega (arith, ints, clamps); to_largest = omega (arith, ints, clamps) };
}
