use Rattle.std.proofs.Common.{subst, ℕ}
use Rattle.vrp_num.specs.Root.{IsRoot}
use Rattle.vrp_num.proofs.RoundingLaws.{nearest_of_root}
use Rattle.vrp_num.proofs.rounding.nearest_root.Goals as goal

pub returns : goal.returns
returns c =
    let P : ℕ → Type 0 = λ n. IsRoot n c.root.result in
    nearest_of_root c.args.square c.root.result (subst P c.in_units.ensures c.root.ensures.greatest)
