use Rattle.std.proofs.Common.{◌≡◌, ◌∙◌, ℕ, rules, sym, ap₂}
use Rattle.std.specs.Prelude.{ℤ, pos, nat_lt}
use Rattle.std.specs.Int.Signed.{lt_z}
use Rattle.std.proofs.lemmas.Int.{to_z-of_z}
use mir.Syntax.{w128}
use mir.Val.{SFits, of_z, to_z}
use Rattle.local_search.proofs.Descending.{pass_decides}
use Rattle.local_search.proofs.passes.takes_some.Goals as goal

-- two costs are compared as they are
compared : (x y : ℤ) (m n : ℕ) → SFits w128 x → SFits w128 y → x ≡ pos m → y ≡ pos n → lt_z (to_z w128 (of_z w128 x)) (to_z w128 (of_z w128 y)) ≡ nat_lt m n
compared x y m n fx fy ex ey = ap₂ lt_z (to_z-of_z w128 x fx ∙ ex) (to_z-of_z w128 y fy ∙ ey)

pub returns-clause-takes : goal.returns-clause-takes
returns-clause-takes g c =
    let new_fits : SFits w128 c.cost.result = search rules in
    let old_fits : SFits w128 c.cost-before.result = search rules in
    compared c.cost.result c.cost-before.result _ _ new_fits old_fits c.cost.ensures.cost c.cost-before.ensures.cost
    ∙ sym (pass_decides _ _ _ _ _ _ _ c.in_ok-pass.ensures.tried)
