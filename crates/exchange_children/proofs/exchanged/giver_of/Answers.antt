use Rattle.std.proofs.Common.{◌≡◌, ◌==◌, ◌∙◌, false, ℕ, arith}
use Rattle.std.proofs.lemmas.Bool.Decides.{nat_tests}
use Rattle.exchange_children.proofs.Givers.{giver-later}
use Rattle.exchange_children.proofs.exchanged.giver_of.Goals as goal

different : (m n : ℕ) → (m ≡ n → ⊥) → (m == n) ≡ false
different m n h = grind (arith, nat_tests)

pub loop-at-preserved : goal.loop-at-preserved
loop-at-preserved c =
    c.loop-at.invariant
    ∙ giver-later c.args.into.now c.args.from.now c.args.vehicle c.loop-at.at c.requires.as_many c.loop-at-test.true (different _ _ c.if-receiver-vehicle.false)
