use Rattle.std.proofs.Common.{◌≡◌, arith, w64, to_z, of_z, ◌+ℤ◌}
use Rattle.std.proofs.lemmas.Int.{ints}
use Rattle.trips.proofs.middle.Middle.merge.Goals as goal

pub returns-clause-value : goal.returns-clause-value
returns-clause-value c =
    let excess : to_z w64 (of_z w64 (to_z w64 (of_z w64 c.args.self.excess) +ℤ to_z w64 (of_z w64 c.args.right.excess))) ≡ c.args.self.excess +ℤ c.args.right.excess = omega (arith, ints) in
    λ i. record { duration = c.merge.ensures.value i; excess = excess i }
